-- Lists of calls, one call after the other. Assumes nothing.
use Prim.Native.Nat.{ℕ, zero, suc, ◌+◌, ◌*◌, ◌^◌, ◌≤◌, ◌<◌}
use mathlib.Core.Path.{◌≡◌, refl, sym, ap, ◌∙◌}
use mathlib.Core.Bool.{true, false, and-true}
use mathlib.Core.List.{List, [], ◌∷◌, ◌++◌, append-nil, append_assoc}
use native.Mathlib.Nat.{add-zero}
use native.Mathlib.Omega.{arith}
use lib.Dec.{T, lit<}
use lib.ListN.{length, get_or, take, drop, length-append, drop_of_length-le}
use lib.Seq.{get_or-drop, get_or-take, take_at, drop_at}
use borrow.Rule.Slice.PartMut.{put_mid}
use Rattle.std.specs.Prelude.{Some, None}
use Rattle.std.specs.Simd.{first_chunks}
use Rattle.std.proofs.lemmas.Grind.{elements, flat_map-append}
use Rattle.std.proofs.lemmas.List.{get_or_past, take_more, take-take, drop-take, drop-drop}
use Rattle.std.proofs.lemmas.List.Folds.{list_all-append}
use Rattle.little.specs.Little.{part, written}
use Rattle.little.proofs.Laws.{written_nil}
use Rattle.model.specs.declared.Answer.{Answer}
use Rattle.model.specs.Store.{Request, StoreOutcome, on_store, store_after, answers_to}
use Rattle.model.specs.Stations.{arguments, all_words}
use Rattle.model.specs.Claims.{PastCall, history, are_words, on}
use Rattle.model.proofs.Booleans.{both, both_of, never_both}
use Rattle.model.proofs.EveryList.{store_after_lem, every_list}
use Rattle.numbering.specs.declared.Frame.{Frame}
use Rattle.numbering.specs.Numbers.{frame_arguments, request_of}
use Rattle.numbering.proofs.Small.{numbered_small, words_before}
use Rattle.lists.specs.Lists.{call_length, answer_length, frame_at, frame_of, all_made, requests_to, exist, requests_in, numbers_of, calls_in, is_list, past_in, Listed}

answers_after : (store : List ℕ) (first second : List Request)
    → answers_to store (first ++ second) ≡ answers_to store first ++ answers_to (store_after store first) second
unfolding answers_to store_after
answers_after store [] second = refl
answers_after store (r ∷ first) second =
    ap (λ (rest : List Answer). (on_store store r).answer ∷ rest) (answers_after (on_store store r).store first second)

numbers_append : (first second : List Answer) → numbers_of (first ++ second) ≡ numbers_of first ++ numbers_of second
unfolding numbers_of
numbers_append [] second = refl
numbers_append (a ∷ first) second =
    ap (λ (rest : List ℕ). a.refusal ∷ a.first ∷ a.second ∷ a.third ∷ rest) (numbers_append first second)

length_numbers : (store : List ℕ) (calls : List Request) → length (numbers_of (answers_to store calls)) ≡ answer_length * length calls
unfolding numbers_of answers_to
length_numbers store [] = refl
length_numbers store (r ∷ rest) = let later = length_numbers (on_store store r).store rest in omega arith

-- room that is filled up to a place, and further by a part that is written there
filled_more : (first more room : List ℕ) (at k : ℕ) → length first ≡ at
    → put_mid at k (first ++ drop at room) more ≡ (first ++ more) ++ drop (at + k) room
filled_more first more room at k e = rw (take_at first _ at e, drop_at first _ at e, drop-drop k at room, append_assoc) refl

-- a call of a list, on whatever store and answers it finds, and one that makes none
pub one_made : (store ns answers : List ℕ) (i : ℕ) {f : Frame} {r : Answer} {store_then answers_then : List ℕ} → frame_at ns i ≡ Some f
    → ◌≡◌ {A = StoreOutcome} (record { answer = r; store = store_then }) (on_store store (on f.stream f.call))
    → answers_then ≡ written (answer_length * i) (numbers_of (r ∷ [])) answers
    → (store_then ≡ store_after store (request_of (frame_at ns i)))
    × (answers_then ≡ written (answer_length * i) (numbers_of (answers_to store (request_of (frame_at ns i)))) answers)
unfolding request_of store_after answers_to
one_made store ns answers i made outcome wrote =
    rw made (
      ap (λ (o : StoreOutcome). o.store) outcome,
      wrote ∙ ap (λ (o : StoreOutcome). written (answer_length * i) (numbers_of (o.answer ∷ [])) answers) outcome,
    )

pub one_passed : (store ns answers : List ℕ) (i : ℕ) → frame_at ns i ≡ None
    → (store ≡ store_after store (request_of (frame_at ns i)))
    × (answers ≡ written (answer_length * i) (numbers_of (answers_to store (request_of (frame_at ns i)))) answers)
unfolding request_of store_after answers_to numbers_of
one_passed store ns answers i none = rw none (refl, sym (written_nil (answer_length * i) answers))

-- calls that were made from a store, as many as i, with their answers in room for more
pub record MadeTo (store room : List ℕ) (calls : List Request) (i : ℕ) (store_then room_then : List ℕ) : Type 0 where
  pub counted : length calls ≡ i
  pub stored : store_then ≡ store_after store calls
  pub answered : room_then ≡ numbers_of (answers_to store calls) ++ drop (answer_length * i) room

pub none_made : (store room : List ℕ) → MadeTo store room [] 0 store room
unfolding store_after answers_to numbers_of
none_made store room = record { counted = refl; stored = refl; answered = refl }

-- one call more
module _ {store room : List ℕ} {calls : List Request} {i : ℕ} {store_then room_then : List ℕ} (before : MadeTo store room calls i store_then room_then) where
  numbers_next : (r : Request) → numbers_of (answers_to store (calls ++ r ∷ []))
      ≡ numbers_of (answers_to store calls) ++ numbers_of ((on_store store_then r).answer ∷ [])
  unfolding answers_to
  numbers_next r =
      rw before.stored (ap numbers_of (answers_after store calls (r ∷ [])) ∙ numbers_append (answers_to store calls) _)

  pub next_made : (r : Request) {a : Answer} {after numbers filled : List ℕ}
      → ◌≡◌ {A = StoreOutcome} (record { answer = a; store = after }) (on_store store_then r)
      → numbers ≡ numbers_of (a ∷ []) → filled ≡ put_mid (answer_length * i) answer_length room_then numbers
      → MadeTo store room (calls ++ r ∷ []) (i + 1) after filled
  unfolding store_after
  next_made r {a = a} {numbers = numbers} outcome wrote put =
      record {
        counted = rw length-append (omega (arith, before.counted));
        stored = ap (λ (o : StoreOutcome). o.store) outcome ∙ rw before.stored (sym (store_after_lem store calls (r ∷ [])));
        answered =
            let full : length (numbers_of (answers_to store calls)) ≡ answer_length * i = omega (arith, length_numbers store calls, before.counted) in
            let next : answer_length * (i + 1) ≡ answer_length * i + answer_length = omega arith in
            let same : numbers ≡ numbers_of ((on_store store_then r).answer ∷ []) =
            wrote ∙ ap (λ (o : StoreOutcome). numbers_of (o.answer ∷ [])) outcome in
            put ∙ rw (before.answered, next, same, numbers_next r) (filled_more _ _ room _ _ full);
      }

-- all calls were made, and their answers fill the room
pub made_all : {store room : List ℕ} {calls : List Request} {i : ℕ} {store_then room_then : List ℕ}
    → MadeTo store room calls i store_then room_then → length room ≤ answer_length * i
    → (store_then ≡ store_after store calls) × (room_then ≡ numbers_of (answers_to store calls))
made_all {room = room} m full = (m.stored, m.answered ∙ rw (drop_of_length-le room full, append-nil))

-- the first calls, and one more
chunks_next : (n : ℕ) (ns : List ℕ)
    → first_chunks call_length (suc n) ns ≡ first_chunks call_length n ns ++ part (call_length * n) call_length ns ∷ []
unfolding part
chunks_next zero ns = refl
chunks_next (suc n) ns =
    let next : call_length + call_length * n ≡ call_length * suc n = omega arith in
    let behind : part (call_length * n) call_length (drop call_length ns) ≡ part (call_length * suc n) call_length ns =
    rw (drop-drop (call_length * n) call_length ns, next) refl in
    ap (λ (rest : List (List ℕ)). take call_length ns ∷ rest)
    (chunks_next n (drop call_length ns) ∙ ap (λ (c : List ℕ). first_chunks call_length n (drop call_length ns) ++ c ∷ []) behind)

-- a call in its list and by itself
call_alone : (ns : List ℕ) (i : ℕ) → frame_of (part (call_length * i) call_length ns) ≡ frame_at ns i
unfolding frame_at part
call_alone ns i =
    let call : List ℕ = drop (call_length * i) ns in
    simp (
      get_or-take 9 call 0 0 (lit< tt),
      get_or-take 9 call 1 0 (lit< tt),
      drop-take 2 7 call,
      take-take 7 7 (drop (call_length * i + 2) ns) (omega arith),
      drop-drop,
      get_or-drop,
      add-zero,
    )

pub exist_first : (n : ℕ) (ns : List ℕ) → exist (first_chunks call_length n ns) ≡ all_made ns n
unfolding all_made
exist_first zero ns = refl
exist_first (suc n) ns =
    ap exist (chunks_next n ns)
    ∙ list_all-append _ (first_chunks call_length n ns) _ ∙ rw (exist_first n ns, call_alone ns n, and-true)

pub requests_first : (n : ℕ) (ns : List ℕ) → requests_in (first_chunks call_length n ns) ≡ requests_to ns n
unfolding requests_to
requests_first zero ns = refl
requests_first (suc n) ns =
    ap requests_in (chunks_next n ns)
    ∙ flat_map-append _ (first_chunks call_length n ns) _ ∙ rw (requests_first n ns, call_alone ns n, append-nil)

-- the requests of the first calls, one more of which makes a frame
pub request_next : (calls : List (List ℕ)) (i : ℕ) {f : Frame} → i < length calls → frame_of (get_or calls i []) ≡ Some f
    → requests_in (take (i + 1) calls) ≡ requests_in (take i calls) ++ on f.stream f.call ∷ []
unfolding request_of
request_next calls i here e = rw (take_more calls i [] here) (flat_map-append _ (take i calls) _ ∙ rw e refl)

-- the refusal numbers among the answers are those of the history
past_history : (store : List ℕ) (calls : List Request) → past_in (numbers_of (answers_to store calls)) calls ≡ history store calls
unfolding past_in numbers_of answers_to history
past_history store [] = refl
past_history store (r ∷ rest) =
    ap (λ (later : List PastCall). record { request = r; refusal = (on_store store r).answer.refusal } ∷ later)
    (past_history (on_store store r).store rest)

-- calls in 32-bit numbers have 32-bit arguments
words_append : (first second : List Request) → T (are_words first) → T (are_words second) → T (are_words (first ++ second))
unfolding are_words
words_append [] second a b = b
words_append (r ∷ first) second a b =
    let parts = both_of (all_words (arguments r.made)) (are_words first) a in
    both (all_words (arguments r.made)) (are_words (first ++ second)) parts.0 (words_append first second parts.1 b)

part_words : (at n : ℕ) (ns : List ℕ) → ((k : ℕ) → get_or ns k 0 < 2 ^ 32) → (k : ℕ) → get_or (part at n ns) k 0 < 2 ^ 32
unfolding part
part_words at n ns words k = grind (arith, elements, words (at + k), get_or_past)

requests_words : (ns : List ℕ) → ((k : ℕ) → get_or ns k 0 < 2 ^ 32) → (i : ℕ) → T (are_words (requests_to ns i))
unfolding requests_to are_words frame_at
requests_words ns words zero = tt
requests_words ns words (suc i) =
    words_append (requests_to ns i) (request_of (frame_at ns i)) (requests_words ns words i)
    (rw append-nil at
    (words_before (2 ^ 32) (frame_at ns i) []
    (numbered_small (2 ^ 32) (get_or ns (call_length * i) 0) (get_or ns (call_length * i + 1) 0) (part (call_length * i + 2) frame_arguments ns)
    (words (call_length * i + 1)) (part_words (call_length * i + 2) frame_arguments ns words))
    tt))

-- a list that is none
pub list_refused : {store ns answers : List ℕ} → is_list ns answers ≡ false → Listed store ns answers false store answers
list_refused e =
    record {
      taken = sym e;
      kept = λ z. (refl, refl);
      store_made = λ z. absurd (never_both false z refl);
      answers_made = λ z. absurd (never_both false z refl);
      demand_three = λ z. absurd (never_both false z refl);
    }

-- a list whose calls were made
pub list_made : {store ns answers store_then answers_then : List ℕ} → is_list ns answers ≡ true → ((k : ℕ) → get_or ns k 0 < 2 ^ 32)
    → store_then ≡ store_after store (requests_to ns (calls_in ns))
    → answers_then ≡ numbers_of (answers_to store (requests_to ns (calls_in ns))) → Listed store ns answers true store_then answers_then
list_made {store} {ns} e words s a =
    let calls : List Request = requests_to ns (calls_in ns) in
    record {
      taken = sym e;
      kept = λ z. absurd (never_both true refl z);
      store_made = λ z. s;
      answers_made = λ z. a;
      demand_three = λ z f stream known. rw (s, a, past_history store calls, f) (every_list calls (requests_words ns words (calls_in ns)) stream known);
    }
