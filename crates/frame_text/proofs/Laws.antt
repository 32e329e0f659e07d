-- The laws of digits and of an answer's line. Assumes nothing.
use mathlib.Core.Path.{◌≡◌, refl, sym, ◌∙◌}
use mathlib.Core.Logic.{◌⊎◌, inl, inr, ⊎_elim}
use mathlib.Core.Bool.{Bool, true, false, cond, ◌&&◌, ◌||◌, and_assoc, and-true}
use mathlib.Core.List.{List, [], ◌∷◌, ◌++◌}
use Prim.Native.Nat.{ℕ, zero, suc, ◌+◌, ◌*◌, ◌/◌, ◌%◌, ◌^◌, ◌≤◌, ◌<◌}
use native.Mathlib.Nat.{add-zero, zero-add, add-suc, suc-add, pow-suc}
use native.Mathlib.Numerals.{add-one}
use native.Mathlib.Omega.{arith}
use borrow.Author.Tests.{ltb-true, ltb-false, leb-true, le-leb, lt-leb}
use lib.Dec.{T, leb, ltb, lit<}
use lib.ListN.{length, get_or, take, drop, set, length-append, take-append-drop}
use lib.Seq.{take-suc}
use Rattle.little.specs.Little.{part, written}
use Rattle.little.proofs.Laws.{set_written, written_next, length_written}
use Rattle.model.specs.declared.Answer.{Answer}
use Rattle.plans.specs.Limits.{within}
use Rattle.model.proofs.Booleans.{both_of}
use Rattle.frame_text.specs.Digits.{digit, all_digits, digit_value, digit_of, gone_on, hex_value, digits_of}
use Rattle.frame_text.specs.Answers.{text_length, bad_length, answer_text, bad_text}
use Rattle.frame_text.specs.Claims.{ReadAsWritten}

-- ---- digits

pub digit_range : (b : ℕ) → T (digit b) → ((48 ≤ b) × (b ≤ 57)) ⊎ ((97 ≤ b) × (b ≤ 102))
unfolding digit within
digit_range b h = go (leb 48 b) refl (leb b 57) refl (leb 97 b) refl (leb b 102) refl h
  where
    go : (t : Bool) → leb 48 b ≡ t → (u : Bool) → leb b 57 ≡ u → (v : Bool) → leb 97 b ≡ v → (w : Bool) → leb b 102 ≡ w
        → T (t && u || v && w) → ((48 ≤ b) × (b ≤ 57)) ⊎ ((97 ≤ b) × (b ≤ 102))
    go true p true q v r w s h = inl (leb-true 48 b p, leb-true b 57 q)
    go true p false q true r true s h = inr (leb-true 97 b r, leb-true b 102 s)
    go true p false q true r false s h = absurd h
    go true p false q false r w s h = absurd h
    go false p u q true r true s h = inr (leb-true 97 b r, leb-true b 102 s)
    go false p u q true r false s h = absurd h
    go false p u q false r w s h = absurd h

pub digit_below : (b : ℕ) → T (digit b) → digit_value b < 16
unfolding digit_value
digit_below b h = ⊎_elim (λ w. simp (le-leb b 57 w.1) (omega arith)) (λ w. simp (lt-leb b 57 (omega arith)) (omega arith)) (digit_range b h)

pub digits_append : (s t : List ℕ) → all_digits (s ++ t) ≡ (all_digits s && all_digits t)
unfolding all_digits
digits_append [] t = refl
digits_append (b ∷ s) t = rw (digits_append s t) (sym (and_assoc (digit b) (all_digits s) (all_digits t)))

-- one byte more
pub digits_next : (s : List ℕ) (i : ℕ) → i < length s → all_digits (take (i + 1) s) ≡ (all_digits (take i s) && digit (get_or s i 0))
unfolding all_digits
digits_next s i inside = rw (add-one i, take-suc s i 0 inside, digits_append (take i s) _, and-true)

-- digits, parted
pub digits_parted : (k : ℕ) (s : List ℕ) → T (all_digits s) → T (all_digits (take k s)) × T (all_digits (drop k s))
digits_parted k s h = both_of (all_digits (take k s)) (all_digits (drop k s)) (rw (← digits_append (take k s) (drop k s), take-append-drop k s) h)

pub digits_part : (at k : ℕ) (s : List ℕ) → T (all_digits s) → T (all_digits (part at k s))
unfolding part
digits_part at k s h = (digits_parted k (drop at s) (digits_parted at s h).1).0

-- ---- a number and its digits

-- digits that go on from a number with room for j more
gone_on_below : (j : ℕ) (n : ℕ) (s : List ℕ) → T (all_digits s) → n < 16 ^ j → gone_on n s < 16 ^ (j + length s)
unfolding all_digits gone_on
gone_on_below j n [] h small = rw add-zero small
gone_on_below j n (b ∷ s) h small =
    let parts : T (digit b) × T (all_digits s) = both_of (digit b) (all_digits s) h in
    rw (add-suc, ← suc-add)
    (gone_on_below (suc j) (n * 16 + digit_value b) s parts.1 (omega (arith, pow-suc 16 j, digit_below b parts.0)))

pub value_below : (s : List ℕ) → T (all_digits s) → hex_value s < 16 ^ length s
unfolding hex_value
value_below s h = rw zero-add at (gone_on_below 0 0 s h (lit< tt))

gone_on_last : (n : ℕ) (s : List ℕ) (b : ℕ) → gone_on n (s ++ (b ∷ [])) ≡ gone_on n s * 16 + digit_value b
unfolding gone_on
gone_on_last n [] b = refl
gone_on_last n (a ∷ s) b = gone_on_last (n * 16 + digit_value a) s b

value_of_digit : (n : ℕ) → n < 16 → digit_value (digit_of n) ≡ n
unfolding digit_value digit_of
value_of_digit n h = go (ltb n 10) refl
  where
    go : (t : Bool) → ltb n 10 ≡ t → digit_value (cond t (48 + n) (87 + n)) ≡ n
    go true e = simp (le-leb (48 + n) 57 (omega (arith, ltb-true n 10 e))) (omega arith)
    go false e = simp (lt-leb (87 + n) 57 (omega (arith, ltb-false n 10 e))) (omega arith)

pub read_as_written : ReadAsWritten
unfolding hex_value digits_of gone_on
read_as_written zero n h = omega arith
read_as_written (suc k) n h =
    rw (gone_on_last 0 (digits_of k (n / 16)) (digit_of (n % 16)), value_of_digit (n % 16) (omega arith), read_as_written k (n / 16) (omega (arith, pow-suc 16 k)))
    (omega arith)

pub length_digits : (k n : ℕ) → length (digits_of k n) ≡ k
unfolding digits_of
length_digits zero n = refl
length_digits (suc k) n = rw (length-append, length_digits k (n / 16)) (omega arith)

-- ---- an answer's line

pub length_answer : (r : Answer) → length (answer_text r) ≡ text_length
unfolding answer_text
length_answer r = simp (length-append, length_digits)

pub length_bad : length bad_text ≡ bad_length
unfolding bad_text
length_bad = refl

-- ---- writing

-- a write right behind another
pub write_on : (at k : ℕ) (a b s : List ℕ) → length a ≡ k → at + k + length b ≤ length s → written (at + k) b (written at a s) ≡ written at (a ++ b) s
write_on at k a b s e fits = rw (← e) (written_next at a b s (omega arith))

-- a store right behind a write
pub store_on : (at k : ℕ) (a s : List ℕ) (b : ℕ) → length a ≡ k → at + k < length s → set (written at a s) (at + k) b ≡ written at (a ++ (b ∷ [])) s
store_on at k a s b e inside =
    set_written (at + k) b (written at a s) (rw (length_written at a s (omega arith)) inside)
    ∙ write_on at k a (b ∷ []) s e (omega arith)
