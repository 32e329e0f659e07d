-- Table 1's rows follow one another, so a lot size is in the row where it lies between the row's start and the next one's;
-- and each of its letters is a row of Table 2. Each is one computed test over the table. Assumes nothing.
use Prim.Native.Nat.{ℕ, zero, suc, ◌+◌, ◌-◌, ◌≤◌, ◌<◌}
use mathlib.Core.Path.{◌≡◌, refl}
use mathlib.Core.Bool.{Bool, true, ◌&&◌}
use mathlib.Core.List.{List, [], ◌∷◌}
use native.Mathlib.Omega.{arith}
use lib.Dec.{T, leb, ltb, leb→le, ltb→lt}
use lib.ListN.{length, get_or}
use borrow.Author.Tests.{le-leb, lt-leb}
use Rattle.plans.specs.Tables.{Row, table1, last_letters, letters_in, code_letter}
use Rattle.plans.proofs.Booleans.{both_of, either}

-- the first lot size of the i-th row, counted from 0, where the first row starts at n
unfoldable pub row_start : ℕ → List Row → ℕ → ℕ
row_start n rows zero = n
row_start n [] (suc i) = n
row_start n (r ∷ rows) (suc i) = row_start (r.up_to + 1) rows i

unfoldable pub letters_at : List Row → ℕ → List ℕ
letters_at [] i = last_letters
letters_at (r ∷ rows) zero = r.letters
letters_at (r ∷ rows) (suc i) = letters_at rows i

rising : ℕ → List Row → Bool
rising n [] = true
rising n (r ∷ rows) = leb n r.up_to && rising (r.up_to + 1) rows

start_rises : (n : ℕ) (rows : List Row) (i : ℕ) → T (rising n rows) → n ≤ row_start n rows i
unfolding row_start rising
start_rises n rows zero t = omega arith
start_rises n [] (suc i) t = omega arith
start_rises n (r ∷ rows) (suc i) t =
    omega (
      arith,
      start_rises (r.up_to + 1) rows i (both_of (leb n r.up_to) (rising (r.up_to + 1) rows) t).1,
      leb→le n r.up_to (both_of (leb n r.up_to) (rising (r.up_to + 1) rows) t).0,
    )

found : (n : ℕ) (rows : List Row) (i N : ℕ) → T (rising n rows) → row_start n rows i ≤ N
    → (i < length rows → N < row_start n rows (suc i)) → letters_in rows N ≡ letters_at rows i
unfolding row_start rising letters_in letters_at
found n [] i N t from to = refl
found n (r ∷ rows) zero N t from to = rw (le-leb N r.up_to (omega (arith, to (omega arith))))
found n (r ∷ rows) (suc i) N t from to =
    let later : T (rising (r.up_to + 1) rows) = (both_of (leb n r.up_to) (rising (r.up_to + 1) rows) t).1 in
    rw
    (lt-leb N r.up_to (omega (arith, start_rises (r.up_to + 1) rows i later)))
    (found (r.up_to + 1) rows i N later from (λ h. to (omega arith)))

pub row_found : (i N : ℕ) → row_start 0 table1 i ≤ N → (i < 10 → N < row_start 0 table1 (suc i))
    → letters_in table1 N ≡ letters_at table1 i
unfolding rising table1
row_found i N from to = found 0 table1 i N tt from to

-- every letter of a list is below E's successor
are_letters : List ℕ → Bool
are_letters [] = true
are_letters (l ∷ ls) = ltb l 5 && are_letters ls

have_letters : List Row → Bool
have_letters [] = true
have_letters (r ∷ rows) = are_letters r.letters && have_letters rows

letter_at : (ls : List ℕ) (k : ℕ) → T (are_letters ls) → get_or ls k 0 < 5
unfolding are_letters
letter_at [] k t = omega arith
letter_at (l ∷ ls) zero t = ltb→lt l 5 (both_of (ltb l 5) (are_letters ls) t).0
letter_at (l ∷ ls) (suc k) t = letter_at ls k (both_of (ltb l 5) (are_letters ls) t).1

letters_in_lem : (rows : List Row) (N k : ℕ) → T (have_letters rows) → get_or (letters_in rows N) k 0 < 5
unfolding are_letters have_letters letters_in last_letters
letters_in_lem [] N k t = letter_at last_letters k tt
letters_in_lem (r ∷ rows) N k t =
    let parts = both_of (are_letters r.letters) (have_letters rows) t in
    either (λ (letters : List ℕ). get_or letters k 0 < 5) (leb N r.up_to)
    (letter_at r.letters k parts.0)
    (letters_in_lem rows N k parts.1)

pub code_letter_below : (vl N : ℕ) → code_letter vl N < 5
unfolding code_letter are_letters have_letters table1
code_letter_below vl N = letters_in_lem table1 N (7 - vl) tt
