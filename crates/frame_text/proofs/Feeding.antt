-- The program fed in pieces prints what it prints for its lines: by induction over the bytes, where what is kept of an unfinished line is
-- all of it, or both are too long for a frame. Assumes nothing.
use mathlib.Core.Path.{◌≡◌, refl, sym, ap, ◌∙◌}
use mathlib.Core.Logic.{◌⊎◌, inl, inr, ⊎_elim}
use mathlib.Core.Bool.{Bool, true, false, cond, ◌&&◌}
use mathlib.Core.List.{List, [], ◌∷◌, ◌++◌, append-nil, append_assoc}
use Prim.Native.Nat.{ℕ, ◌+◌, ◌≤◌, ◌<◌}
use native.Mathlib.Omega.{arith}
use borrow.Author.Tests.{eqb-true, ne_eqb, le-leb, leb-true, leb-false}
use lib.Dec.{T, eqb, leb}
use lib.ListN.{length, length-append}
use Rattle.std.specs.Prelude.{Option, Some, None}
use Rattle.model.specs.Store.{fresh}
use Rattle.model.proofs.Booleans.{both_of, both_true, of_holds}
use Rattle.numbering.specs.declared.Frame.{Frame}
use Rattle.frame_text.specs.Digits.{digit, all_digits}
use Rattle.frame_text.specs.Frames.{frame_length, frame_of}
use Rattle.frame_text.specs.Answers.{line_feed}
use Rattle.frame_text.specs.Program.{before, lines, on_line, LineOutcome, output_from, output, store_from}
use Rattle.frame_text.specs.Feeding.{
  Unfinished,
  begun,
  line_room,
  kept,
  after_byte,
  printed_at,
  after_bytes,
  printed_by,
  last_line,
  at_end,
}
use Rattle.frame_text.specs.Claims.{FedInPieces}
use Rattle.frame_text.proofs.Laws.{digit_range}

-- the bytes of an unfinished line before the lines that follow
abbrev all_before : List ℕ → List (List ℕ) → List (List ℕ)
all_before [] rest = rest
all_before (b ∷ line) rest = before b (all_before line rest)

all_before_byte : (line : List ℕ) (b : ℕ) (rest : List (List ℕ)) → all_before line (before b rest) ≡ all_before (line ++ (b ∷ [])) rest
all_before_byte [] b rest = refl
all_before_byte (a ∷ line) b rest = ap (before a) (all_before_byte line b rest)

all_before_end : (line : List ℕ) (rest : List (List ℕ)) → all_before line ([] ∷ rest) ≡ line ∷ rest
unfolding before
all_before_end [] rest = refl
all_before_end (a ∷ line) rest = ap (before a) (all_before_end line rest)

all_before_last : (b : ℕ) (line : List ℕ) → all_before (b ∷ line) [] ≡ (b ∷ line) ∷ []
unfolding before
all_before_last b [] = refl
all_before_last b (a ∷ line) = ap (before b) (all_before_last a line)

at_end_lem : (store line : List ℕ)
    → ((last_line store line).text ≡ output_from store (all_before line [])) × ((last_line store line).store ≡ store_from store (all_before line []))
unfolding last_line output_from store_from
at_end_lem store [] = (refl, refl)
at_end_lem store (b ∷ line) = rw (all_before_last b line) (sym (append-nil _), refl)

-- ---- a line too long, of which not every byte is kept

too_long_bad : (line : List ℕ) → frame_length < length line → frame_of line ≡ None
unfolding frame_of
too_long_bad line h = simp (ne_eqb (length line) frame_length (λ e. omega arith))

too_long_alike : (store line other : List ℕ) → frame_length < length line → frame_length < length other → on_line store line ≡ on_line store other
unfolding on_line
too_long_alike store line other h k = rw (too_long_bad line h, too_long_bad other k)

longer : (line : List ℕ) (b : ℕ) → frame_length < length line → frame_length < length (line ++ (b ∷ []))
longer line b h = rw length-append (omega arith)

-- what is kept of a line is the whole of it, or both are too long
abbrev Alike : List ℕ → List ℕ → Type 0
Alike line some = (line ≡ some) ⊎ ((frame_length < length line) × (frame_length < length some))

line_alike : (store line some : List ℕ) → Alike line some → on_line store line ≡ on_line store some
line_alike store line some (inl e) = ap (on_line store) e
line_alike store line some (inr h) = too_long_alike store line some h.0 h.1

end_alike : (store line some : List ℕ) → Alike line some → last_line store line ≡ last_line store some
unfolding last_line
end_alike store line some (inl e) = ap (last_line store) e
end_alike store [] some (inr h) = absurd (let never : ⊥ = omega arith in never)
end_alike store (a ∷ line) [] (inr h) = absurd (let never : ⊥ = omega arith in never)
end_alike store (a ∷ line) (b ∷ some) (inr h) = too_long_alike store (a ∷ line) (b ∷ some) h.0 h.1

kept_alike : (line some : List ℕ) (b : ℕ) → Alike line some → Alike (line ++ (b ∷ [])) (kept some b)
unfolding kept
kept_alike line some b alike = go (leb (length some) frame_length) refl alike
  where
    go : (t : Bool) → leb (length some) frame_length ≡ t → Alike line some
        → Alike (line ++ (b ∷ [])) (cond t (some ++ (b ∷ [])) some)
    go true e (inl same) = inl (ap (λ (l : List ℕ). l ++ (b ∷ [])) same)
    go true e (inr h) = absurd (let never : ⊥ = omega (arith, leb-true (length some) frame_length e) in never)
    go false e (inl same) =
        let long : frame_length < length some = leb-false (length some) frame_length e in
        inr (longer line b (rw same long), long)
    go false e (inr h) = inr (longer line b h.0, h.1)

-- ---- the whole

-- bytes and the end of the input print what some lines print, and leave the store that they leave
abbrev FedAs : Unfinished → List ℕ → List ℕ → List (List ℕ) → Type 0
FedAs u bytes store ls =
    (printed_by u bytes ++ (at_end (after_bytes u bytes)).text ≡ output_from store ls)
    × ((at_end (after_bytes u bytes)).store ≡ store_from store ls)

fed_as_lines : (bytes store line some : List ℕ) → Alike line some
    → FedAs (record { store = store; line = some }) bytes store (all_before line (lines bytes))
unfolding printed_by after_bytes after_byte printed_at at_end lines output_from store_from
fed_as_lines [] store line some alike = rw (← end_alike store line some alike) (at_end_lem store line)
fed_as_lines (b ∷ bytes) store line some alike =
    next (eqb b line_feed) (fed_as_lines bytes (on_line store some).store [] [] (inl refl))
    (fed_as_lines bytes store (line ++ (b ∷ [])) (kept some b) (kept_alike line some b alike))
  where
    ended : Unfinished
    ended = record { store = (on_line store some).store; line = [] }

    going : Unfinished
    going = record { store = store; line = kept some b }

    next : (t : Bool) → FedAs ended bytes (on_line store some).store (lines bytes)
        → FedAs going bytes store (all_before (line ++ (b ∷ [])) (lines bytes))
        → (cond t (on_line store some).text [] ++ printed_by (cond t ended going) bytes ++ (at_end (after_bytes (cond t ended going) bytes)).text
        ≡ output_from store (all_before line (cond t ([] ∷ lines bytes) (before b (lines bytes)))))
        × ((at_end (after_bytes (cond t ended going) bytes)).store ≡ store_from store (all_before line (cond t ([] ∷ lines bytes) (before b (lines bytes)))))
    next true when_ended when_going = (
      rw (append_assoc (on_line store some).text, when_ended.0, all_before_end line (lines bytes), line_alike store line some alike),
      when_ended.1
          ∙ ap (λ (o : LineOutcome). store_from o.store (lines bytes)) (sym (line_alike store line some alike))
          ∙ ap (store_from store) (sym (all_before_end line (lines bytes))),
    )
    next false when_ended when_going = rw (all_before_byte line b (lines bytes)) when_going

-- ---- pieces

cut_state_lem : (u : Unfinished) (xs ys : List ℕ) → after_bytes u (xs ++ ys) ≡ after_bytes (after_bytes u xs) ys
unfolding after_bytes
cut_state_lem u [] ys = refl
cut_state_lem u (b ∷ xs) ys = cut_state_lem (after_byte u b) xs ys

cut_text_lem : (u : Unfinished) (xs ys : List ℕ) → printed_by u (xs ++ ys) ≡ printed_by u xs ++ printed_by (after_bytes u xs) ys
unfolding after_bytes printed_by
cut_text_lem u [] ys = refl
cut_text_lem u (b ∷ xs) ys = rw (cut_text_lem (after_byte u b) xs ys) (sym (append_assoc (printed_at u b) _ _))

short_kept : (line : List ℕ) (b : ℕ) → length line ≤ line_room → length (kept line b) ≤ line_room
unfolding kept
short_kept line b h = go (leb (length line) frame_length) refl
  where
    go : (t : Bool) → leb (length line) frame_length ≡ t → length (cond t (line ++ (b ∷ [])) line) ≤ line_room
    go true e = rw length-append (omega (arith, leb-true (length line) frame_length e))
    go false e = h

short_line_lem : (u : Unfinished) (bytes : List ℕ) → length u.line ≤ line_room → length (after_bytes u bytes).line ≤ line_room
unfolding after_bytes after_byte
short_line_lem u [] h = h
short_line_lem u (b ∷ bytes) h = short_line_lem (after_byte u b) bytes (go (eqb b line_feed))
  where
    go : (t : Bool) → length (cond {A = Unfinished} t (record { store = (on_line u.store u.line).store; line = [] }) (record { store = u.store; line = kept u.line b })).line ≤ line_room
    go true = omega arith
    go false = short_kept u.line b h

-- ---- a frame's line, fed whole

digit_goes_on : (b : ℕ) → T (digit b) → eqb b line_feed ≡ false
digit_goes_on b h = ne_eqb b line_feed (λ e. ⊎_elim (λ w. omega arith) (λ w. omega arith) (digit_range b h))

-- digits print nothing, and all of them are kept where there is room
digits_go_on : (store line bytes : List ℕ) → T (all_digits bytes) → length line + length bytes ≤ frame_length
    → (after_bytes (record { store = store; line = line }) bytes ≡ record { store = store; line = line ++ bytes })
    × (printed_by (record { store = store; line = line }) bytes ≡ [])
unfolding all_digits after_bytes printed_by after_byte printed_at kept
digits_go_on store line [] h fits = (ap (λ (l : List ℕ). record { store = store; line = l }) (sym (append-nil line)), refl)
digits_go_on store line (b ∷ bytes) h fits =
    let parts : T (digit b) × T (all_digits bytes) = both_of (digit b) (all_digits bytes) h in
    let room : leb (length line) frame_length ≡ true = le-leb (length line) frame_length (omega arith) in
    let more = digits_go_on store (line ++ (b ∷ [])) bytes parts.1 (rw length-append (omega arith)) in
    rw (digit_goes_on b parts.0, room, ← append_assoc line (b ∷ []) bytes) more

-- a frame's 60 digits and a line feed, where no line is begun, make its call and print its text
pub frame_line : (store line : List ℕ) → length line ≡ frame_length → T (all_digits line)
    → (after_bytes (record { store = store; line = [] }) (line ++ (line_feed ∷ [])) ≡ record { store = (on_line store line).store; line = [] })
    × (printed_by (record { store = store; line = [] }) (line ++ (line_feed ∷ [])) ≡ (on_line store line).text)
unfolding after_bytes printed_by after_byte printed_at
frame_line store line long h =
    let start : Unfinished = record { store = store; line = [] } in
    let read = digits_go_on store [] line h (omega arith) in (
      rw (cut_state_lem start line (line_feed ∷ []), read.0),
      rw (cut_text_lem start line (line_feed ∷ []), read.0, read.1) (append-nil _),
    )

-- a line that makes a call is 60 digits
pub frame_digits : (line : List ℕ) (f : Frame) → frame_of line ≡ Some f → (length line ≡ frame_length) × T (all_digits line)
unfolding frame_of
frame_digits line f e = go (eqb (length line) frame_length && all_digits line) _ refl e
  where
    go : (t : Bool) (g : Option Frame) → (eqb (length line) frame_length && all_digits line) ≡ t → cond t g None ≡ Some f
        → (length line ≡ frame_length) × T (all_digits line)
    go true g test made =
        let both : (eqb (length line) frame_length ≡ true) × (all_digits line ≡ true) = both_true (eqb (length line) frame_length) (all_digits line) test in
        (eqb-true (length line) frame_length both.0, of_holds (all_digits line) both.1)
    go false g test made = absurd (let never : ◌≡◌ {A = ℕ} 0 1 = cc in let none : ⊥ = omega arith in none)

pub fed_in_pieces : FedInPieces
unfolding begun output
fed_in_pieces =
    record {
      whole = λ input. (fed_as_lines input fresh [] [] (inl refl)).0;
      whole_store = λ input. (fed_as_lines input fresh [] [] (inl refl)).1;
      cut_state = cut_state_lem;
      cut_text = cut_text_lem;
      short_line = short_line_lem;
    }
