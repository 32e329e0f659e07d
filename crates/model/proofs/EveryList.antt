-- Demand 3: the claim EveryList, one statement over every list of calls. For one stream it keeps `Holds`, over a call on the stream
-- and over a call on another. Assumes nothing.
use Prim.Native.Nat.{ℕ, ◌+◌, ◌*◌, ◌-◌, ◌<◌}
use mathlib.Core.Path.{◌≡◌, refl, sym, ap, ap₂, ◌∙◌}
use mathlib.Core.Bool.{Bool, true, false, cond, ◌&&◌}
use mathlib.Core.List.{List, [], ◌∷◌, ◌++◌}
use native.Mathlib.Omega.{arith}
use lib.Dec.{T, eqb}
use lib.ListN.{length, length-replicate}
use borrow.Author.Tests.{eqb-true, eqb-false}
use Rattle.little.specs.Little.{part}
use Rattle.model.specs.declared.Plan.{Plan}
use Rattle.model.specs.declared.Entry.{Entry}
use Rattle.model.specs.declared.Call.{Call}
use Rattle.model.specs.declared.Call.TheVariants.{Open, Enter, Back, Ask, Read, Newest}
use Rattle.model.specs.declared.Answer.{Answer}
use Rattle.model.specs.declared.Part.{Part}
use Rattle.model.specs.Sizes.{record_length, header_length, area_length, streams, store_length, start_of}
use Rattle.model.specs.Stations.{Station, unopened, opened, arguments, all_words}
use Rattle.model.specs.Calls.{first_refusal, refusals, refusal_of, newest_of, changed, without_newest, call, admissible, admissible_station}
use Rattle.model.specs.Area.{area_of, on_area}
use Rattle.model.specs.Store.{Request, fresh, area_at, on_store, store_after, answers_to, newest_records}
use Rattle.model.specs.Claims.{history, after_accepted, after_past_call, standing, on, reentered, remade, AllTaken, on_all, are_words, there, newest_bytes, StationBackward, EveryList}
use Rattle.model.proofs.Booleans.{both_of}
use Rattle.model.proofs.Allowed.{NewestEntry, newest_of_lem, count_within}
use Rattle.model.proofs.AreaReading.{reading_of_area, part_zeros}
use Rattle.model.proofs.NewestRecords.{newest_in_area, shut_part, opened_records, part_of_its_area}
use Rattle.model.proofs.Recordings.{recordings_stand_lem}
use Rattle.model.proofs.Keeping.{
  accepted_station,
  answer_refusal,
  call_admissible,
  plan_of_lem,
  entries_of,
  valid_opens,
  plan_words,
}
use Rattle.model.proofs.Stored.{figures_backward}
use Rattle.model.proofs.OnArea.{on_station, refused_station}
use Rattle.model.proofs.OnStore.{area_after_lem, answer_after, other_stream, keeps_to_its_area}

-- a store in which a stream's area holds a station
pub record Holds (store : List ℕ) (stream : ℕ) (st : Station) : Type 0 where
  pub sized : length store ≡ store_length
  pub held : area_at stream store ≡ area_of st
  pub kept : T (admissible_station st)

module _ (stream : ℕ) (known : stream < streams) where
  -- a call on the stream is the call on the station
  own_answer : (store : List ℕ) (st : Station) (c : Call) → Holds store stream st
      → (on_store store (on stream c)).answer ≡ (call st c).answer
  own_answer store st c h =
      answer_after store (on stream c) h.sized known
      ∙ ap (λ (area : List ℕ). (on_area area c).answer) h.held
      ∙ ap (λ o. o.answer) (on_station (area_of st) st c (reading_of_area st h.kept))

  own_call : (store : List ℕ) (st : Station) (c : Call) → Holds store stream st → T (all_words (arguments c))
      → Holds (on_store store (on stream c)).store stream (call st c).station
  own_call store st c h w =
      record {
        sized = (keeps_to_its_area store (on stream c)).same_length ∙ h.sized;
        held =
            area_after_lem store (on stream c) h.sized known
            ∙ ap (λ (area : List ℕ). (on_area area c).area) h.held
            ∙ ap (λ o. o.area) (on_station (area_of st) st c (reading_of_area st h.kept));
        kept = call_admissible st c h.kept w;
      }

  -- a call on another stream leaves what the stream holds
  other_call : (store : List ℕ) (st : Station) (r : Request) → Holds store stream st → (r.stream ≡ stream → ⊥)
      → Holds (on_store store r).store stream st
  other_call store st r h apart =
      record {
        sized = (keeps_to_its_area store r).same_length ∙ h.sized;
        held = other_stream store r stream (λ e. apart (sym e)) ∙ h.held;
        kept = h.kept;
      }

-- an accepted call changes the station as it changes the standing list
accepted_changes : (st : Station) (c : Call) → refusal_of st c ≡ 0 → changed st c ≡ after_accepted c st
unfolding changed after_accepted without_newest refusal_of refusals first_refusal
accepted_changes unopened (Open q) e = refl
accepted_changes unopened (Enter x) e = refl
accepted_changes unopened Back e = refl
accepted_changes unopened (Ask N) e = refl
accepted_changes unopened Read e = refl
accepted_changes unopened (Newest n) e = refl
accepted_changes (opened p es) (Open q) e = absurd (omega arith)
accepted_changes (opened p es) (Enter x) e = refl
accepted_changes (opened p []) Back e = refl
accepted_changes (opened p (x ∷ es)) Back e = refl
accepted_changes (opened p es) (Ask N) e = refl
accepted_changes (opened p es) Read e = refl
accepted_changes (opened p es) (Newest n) e = refl

-- the station after a call is what the call and its refusal number make of the standing list
stands_after : (st : Station) (c : Call) → (call st c).station ≡ cond (eqb (call st c).answer.refusal 0) (after_accepted c st) st
stands_after st c = rw (answer_refusal st c) (go (eqb (refusal_of st c) 0) refl)
  where
    go : (b : Bool) → eqb (refusal_of st c) 0 ≡ b → (call st c).station ≡ cond b (after_accepted c st) st
    go true e =
        let taken : refusal_of st c ≡ 0 = eqb-true (refusal_of st c) 0 e in
        accepted_station st c taken ∙ accepted_changes st c taken
    go false e = (refused_station st c (eqb-false (refusal_of st c) 0 e)).1

module _ (stream : ℕ) (known : stream < streams) where
  -- what the stream holds after a call is the standing list after it
  stands : (store : List ℕ) (st : Station) (r : Request) → Holds store stream st → T (all_words (arguments r.made))
      → Holds (on_store store r).store stream
      (after_past_call stream (record { request = r; refusal = (on_store store r).answer.refusal }) st)
  unfolding after_past_call
  stands store st r h w = go (eqb r.stream stream) refl
    where
      own : r.stream ≡ stream → r ≡ on stream r.made
      own e = λ i. record { stream = e i; made = r.made }

      go : (b : Bool) → eqb r.stream stream ≡ b
          → Holds (on_store store r).store stream (cond (b && eqb (on_store store r).answer.refusal 0) (after_accepted r.made st) st)
      go true e =
          rw (own (eqb-true r.stream stream e), own_answer stream known store st r.made h, ← stands_after st r.made)
          (own_call stream known store st r.made h w)
      go false e = other_call stream known store st r h (eqb-false r.stream stream e)

  -- over a list of calls
  standing_holds : (calls : List Request) (store : List ℕ) (st : Station) → Holds store stream st → T (are_words calls)
      → Holds (store_after store calls) stream (standing stream st (history store calls))
  unfolding store_after standing history are_words
  standing_holds [] store st h w = h
  standing_holds (r ∷ calls) store st h w =
      let words = both_of (all_words (arguments r.made)) (are_words calls) w in
      standing_holds calls (on_store store r).store
      (after_past_call stream (record { request = r; refusal = (on_store store r).answer.refusal }) st)
      (stands store st r h words.0)
      words.1

-- a fresh store holds an unopened station everywhere
fresh_holds : (stream : ℕ) → stream < streams → Holds fresh stream unopened
unfolding fresh area_at area_of admissible_station
fresh_holds stream known =
    record {
      sized = length-replicate {A = ℕ} store_length 0;
      held = part_zeros (start_of stream) area_length store_length (omega arith);
      kept = tt;
    }

-- one list of calls after another
pub store_after_lem : (store : List ℕ) (first second : List Request)
    → store_after store (first ++ second) ≡ store_after (store_after store first) second
unfolding store_after
store_after_lem store [] second = refl
store_after_lem store (r ∷ first) second = store_after_lem (on_store store r).store first second

all_taken : (store : List ℕ) (first second : List Request) → AllTaken (answers_to store first)
    → AllTaken (answers_to (store_after store first) second) → AllTaken (answers_to store (first ++ second))
unfolding AllTaken answers_to store_after
all_taken store [] second a b = b
all_taken store (r ∷ first) second a b = (a.0, all_taken (on_store store r).store first second a.1 b)

-- what a list of calls leaves at a stream, each of them taken
pub record Leaves (stream : ℕ) (store : List ℕ) (calls : List Request) (st : Station) : Type 0 where
  pub left : Holds (store_after store calls) stream st
  pub taken : AllTaken (answers_to store calls)

module _ (stream : ℕ) (known : stream < streams) where
  -- an accepted call on the stream
  leaves_call : (store : List ℕ) (st : Station) (c : Call) → Holds store stream st → T (all_words (arguments c))
      → refusal_of st c ≡ 0 → Leaves stream store (on stream c ∷ []) (changed st c)
  unfolding store_after answers_to AllTaken
  leaves_call store st c h w e =
      record {
        left = rw (← accepted_station st c e) (own_call stream known store st c h w);
        taken = (ap (λ (a : Answer). a.refusal) (own_answer stream known store st c h) ∙ answer_refusal st c ∙ e, tt);
      }

  leaves_both : (store : List ℕ) (first second : List Request) (st after : Station) → Leaves stream store first st
      → Leaves stream (store_after store first) second after → Leaves stream store (first ++ second) after
  leaves_both store first second st after a b =
      record {
        left = rw (store_after_lem store first second) b.left;
        taken = all_taken store first second a.taken b.taken;
      }

  entry_leaves : (store : List ℕ) (p : Plan) (e : Entry) (es : List Entry) → Holds store stream (opened p es) → NewestEntry p e es
      → Leaves stream store (on stream (Enter e) ∷ []) (opened p (e ∷ es))
  unfolding changed refusal_of refusals arguments
  entry_leaves store p e es h last = leaves_call store (opened p es) (Enter e) h last.words last.accepted

  -- the standing entries, oldest first
  reentered_leaves : (store : List ℕ) (p : Plan) (es : List Entry) → Holds store stream (opened p []) → T (admissible p es)
      → Leaves stream store (reentered stream es) (opened p es)
  unfolding reentered store_after answers_to AllTaken
  reentered_leaves store p [] h t = record { left = h; taken = tt }
  reentered_leaves store p (e ∷ es) h t =
      let last = newest_of_lem p e es t in
      let before = reentered_leaves store p es h last.others in
      leaves_both store (reentered stream es) (on stream (Enter e) ∷ []) (opened p es) (opened p (e ∷ es)) before
      (entry_leaves (store_after store (reentered stream es)) p e es before.left last)

  -- the other store
  remade_leaves : (st : Station) → T (admissible_station st) → Leaves stream fresh (remade stream st) st
  unfolding remade store_after answers_to AllTaken changed
  remade_leaves unopened t = record { left = fresh_holds stream known; taken = tt }
  remade_leaves (opened p es) t =
      let first = leaves_call fresh unopened (Open p) (fresh_holds stream known) (plan_words p (plan_of_lem p es t)) (valid_opens p (plan_of_lem p es t)) in
      leaves_both fresh (on stream (Open p) ∷ []) (reentered stream es) (opened p []) (opened p es) first
      (reentered_leaves (store_after fresh (on stream (Open p) ∷ [])) p es first.left (entries_of p es t))

-- two stores of one length with the same area for a stream give the same answers there, whatever calls follow
same_answers : (stream : ℕ) (more : List Call) (store other : List ℕ) → length other ≡ length store
    → area_at stream other ≡ area_at stream store → answers_to other (on_all stream more) ≡ answers_to store (on_all stream more)
unfolding answers_to on_all
same_answers stream [] store other l a = refl
same_answers stream (c ∷ more) store other l a =
    let alike = (keeps_to_its_area store (on stream c)).reads_no_other other l a in
    let length-kept = (keeps_to_its_area other (on stream c)).same_length ∙ l ∙ sym (keeps_to_its_area store (on stream c)).same_length in
    ap₂ ◌∷◌ alike.0
    (same_answers stream more (on_store store (on stream c)).store (on_store other (on stream c)).store length-kept alike.1)

station_backward : (st : Station) (area : List ℕ) → T (admissible_station st) → area ≡ area_of st → StationBackward st area
unfolding StationBackward area_of
station_backward unopened area t e = e
station_backward (opened p es) area t e =
    rw e (figures_backward p es (plan_of_lem p es t) (entries_of p es t))

-- and the newest records that they hand back are the same
same_after : (stream : ℕ) (more : List Call) (store other : List ℕ) → length other ≡ length store
    → area_at stream other ≡ area_at stream store → (n : ℕ)
    → newest_records (store_after other (on_all stream more)) stream n ≡ newest_records (store_after store (on_all stream more)) stream n
unfolding store_after on_all
same_after stream [] store other l a n = (part_of_its_area store stream n).reads_no_other other l a
same_after stream (c ∷ more) store other l a n =
    let alike = (keeps_to_its_area store (on stream c)).reads_no_other other l a in
    let length-kept = (keeps_to_its_area other (on stream c)).same_length ∙ l ∙ sym (keeps_to_its_area store (on stream c)).same_length in
    same_after stream more (on_store store (on stream c)).store (on_store other (on stream c)).store length-kept alike.1 n

-- the newest records of a store that holds a station
newest_held : (store : List ℕ) (stream n : ℕ) → stream < streams → (st : Station) → Holds store stream st
    → newest_records store stream n ≡ newest_bytes n st
unfolding newest_records newest_bytes part
newest_held store stream n known unopened h =
    ap (λ (q : Part). part q.offset q.length store)
    (shut_part store stream n h.sized known (rw h.held (reading_of_area unopened h.kept)))
newest_held store stream n known (opened p es) h =
    opened_records store stream n h.sized known p es (rw h.held (reading_of_area (opened p es) h.kept))
    ∙ ap (part (header_length + record_length * (length es - newest_of n es)) (record_length * newest_of n es)) h.held
    ∙ newest_in_area p es n (count_within p es (entries_of p es h.kept))

-- demand 3
pub every_list : EveryList
unfolding there
every_list calls words stream known =
    let holds-here = standing_holds stream known calls fresh unopened (fresh_holds stream known) words in
    let there-left = remade_leaves stream known (standing stream unopened (history fresh calls)) holds-here.kept in
    let same = holds-here.held ∙ sym there-left.left.held in
    record {
      same_area = same;
      taken = there-left.taken;
      answers_alike = λ more. same_answers stream more _ _ (holds-here.sized ∙ sym there-left.left.sized) same;
      newest_alike = λ more. same_after stream more _ _ (holds-here.sized ∙ sym there-left.left.sized) same;
      newest_stand = λ n. newest_held _ stream n known _ holds-here;
      recordings = λ i room. rw holds-here.held (recordings_stand_lem _ holds-here.kept i room);
      backwards = station_backward _ _ holds-here.kept holds-here.held;
      stands_there = holds-here.held;
      by_the_rules = λ c. own_answer stream known _ _ c holds-here;
    }
