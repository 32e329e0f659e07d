-- Eight digits at once: how word_at reads them. Assumes nothing.
use mathlib.Core.Path.{◌≡◌, refl, sym, ap, ◌∙◌}
use mathlib.Core.Logic.{⊎_elim}
use mathlib.Core.List.{List, [], ◌∷◌, ◌++◌}
use Prim.Native.Nat.{ℕ, ◌+◌, ◌*◌, ◌/◌, ◌%◌, ◌≤◌, ◌<◌}
use native.Mathlib.Omega.{arith}
use borrow.Author.Tests.{le-leb, lt-leb}
use lib.Bits.{bit_and, and_le_r, and_mask}
use lib.Dec.{T, lit<, lit≤}
use lib.ListN.{length, drop, length-drop}
use lib.Seq.{drop-append-le, take-append-le}
use Rattle.little.specs.Little.{value, part}
use Rattle.little.proofs.Laws.{length_part, part_and_rest}
use Rattle.model.proofs.Booleans.{both_of}
use Rattle.frame_text.specs.Digits.{digit, all_digits, digit_value, gone_on, hex_value}
use Rattle.frame_text.proofs.Laws.{digit_range, digit_below, digits_part}
use Rattle.frame_text.proofs.Fields.{fields, lows, picked, mask_law, Below, joined, overlapped, joined_below, bases, join_masked}

-- ---- a digit's value

-- of a digit's bits, the four low ones and the one of 64, which letters have, make its value
digit_parts : (b : ℕ) → T (digit b) → (b < 256) × (b % 16 + b / 64 % 2 * 9 ≡ digit_value b)
unfolding digit_value
digit_parts b h =
    ⊎_elim (λ w. (omega arith, simp (le-leb b 57 w.1) (omega arith))) (λ w. (omega arith, simp (lt-leb b 57 (omega arith)) (omega arith))) (digit_range b h)

unfoldable values_of : List ℕ → List ℕ
values_of [] = []
values_of (b ∷ bs) = digit_value b ∷ values_of bs

values_below : (bs : List ℕ) → T (all_digits bs) → Below 16 (values_of bs)
unfolding all_digits values_of
values_below [] h = tt
values_below (b ∷ bs) h =
    let parts : T (digit b) × T (all_digits bs) = both_of (digit b) (all_digits bs) h in
    (digit_below b parts.0, values_below bs parts.1)

-- the values of all digits at once
read_ones : (bs : List ℕ) → T (all_digits bs)
    → picked 256 16 (length bs) (value bs) + picked 256 2 (length bs) (value bs / 64) * 9 ≡ fields 256 (values_of bs)
unfolding all_digits values_of fields picked value
read_ones [] h = refl
read_ones (b ∷ bs) h =
    let parts : T (digit b) × T (all_digits bs) = both_of (digit b) (all_digits bs) h in
    let one : (b < 256) × (b % 16 + b / 64 % 2 * 9 ≡ digit_value b) = digit_parts b parts.0 in
    let v : ℕ = value bs in
    let rest : (b + 256 * v) / 256 ≡ v = omega arith in
    let low : (b + 256 * v) % 16 ≡ b % 16 = omega arith in
    let quarters : (b + 256 * v) / 64 ≡ b / 64 + 4 * v = omega arith in
    let rest-letter : (b + 256 * v) / 64 / 256 ≡ v / 64 = rw quarters (omega arith) in
    let letter : (b + 256 * v) / 64 % 2 ≡ b / 64 % 2 = rw quarters (omega arith) in
    rw (rest, low, rest-letter, letter) (omega (arith, read_ones bs parts.1))

-- ---- eight digits

-- as word_at computes, from the bytes of the text to the number

abbrev pub ones_in : ℕ → ℕ
ones_in x = bit_and x 0x0f0f_0f0f_0f0f_0f0f + bit_and (x / 64) 0x0101_0101_0101_0101 * 9

abbrev pub twos_in : ℕ → ℕ
twos_in x = bit_and (overlapped 16 256 (ones_in x)) 0x00ff_00ff_00ff_00ff

abbrev pub fours_in : ℕ → ℕ
fours_in x = bit_and (overlapped 256 65536 (twos_in x)) 0x0000_ffff_0000_ffff

abbrev pub word_in : ℕ → ℕ
word_in x = overlapped 65536 4294967296 (fours_in x) % 4294967296

-- a list of eight, element by element
of_eight : (Goal : List ℕ → Type 0)
    → ((b₀ b₁ b₂ b₃ b₄ b₅ b₆ b₇ : ℕ) → Goal (b₀ ∷ b₁ ∷ b₂ ∷ b₃ ∷ b₄ ∷ b₅ ∷ b₆ ∷ b₇ ∷ []))
    → (bs : List ℕ) → length bs ≡ 8 → Goal bs
of_eight Goal all [] e = absurd (let never : ⊥ = omega arith in never)
of_eight Goal all (b₀ ∷ []) e = absurd (let never : ⊥ = omega arith in never)
of_eight Goal all (b₀ ∷ b₁ ∷ []) e = absurd (let never : ⊥ = omega arith in never)
of_eight Goal all (b₀ ∷ b₁ ∷ b₂ ∷ []) e = absurd (let never : ⊥ = omega arith in never)
of_eight Goal all (b₀ ∷ b₁ ∷ b₂ ∷ b₃ ∷ []) e = absurd (let never : ⊥ = omega arith in never)
of_eight Goal all (b₀ ∷ b₁ ∷ b₂ ∷ b₃ ∷ b₄ ∷ []) e = absurd (let never : ⊥ = omega arith in never)
of_eight Goal all (b₀ ∷ b₁ ∷ b₂ ∷ b₃ ∷ b₄ ∷ b₅ ∷ []) e = absurd (let never : ⊥ = omega arith in never)
of_eight Goal all (b₀ ∷ b₁ ∷ b₂ ∷ b₃ ∷ b₄ ∷ b₅ ∷ b₆ ∷ []) e = absurd (let never : ⊥ = omega arith in never)
of_eight Goal all (b₀ ∷ b₁ ∷ b₂ ∷ b₃ ∷ b₄ ∷ b₅ ∷ b₆ ∷ b₇ ∷ []) e = all b₀ b₁ b₂ b₃ b₄ b₅ b₆ b₇
of_eight Goal all (b₀ ∷ b₁ ∷ b₂ ∷ b₃ ∷ b₄ ∷ b₅ ∷ b₆ ∷ b₇ ∷ b₈ ∷ bs) e = absurd (let never : ⊥ = omega arith in never)

ones_in_lem : (bs : List ℕ) → length bs ≡ 8 → T (all_digits bs) → ones_in (value bs) ≡ fields 256 (values_of bs)
unfolding lows
ones_in_lem bs long h =
    rw (mask_law 4 4 8 (value bs) refl, mask_law 7 1 8 (value bs / 64) refl, ← long) (read_ones bs h)

values_small : (bs : List ℕ) → T (all_digits bs) → fields 256 (values_of bs) ≤ lows 4 4 (length bs)
unfolding all_digits values_of fields lows
values_small [] h = omega arith
values_small (b ∷ bs) h =
    let parts : T (digit b) × T (all_digits bs) = both_of (digit b) (all_digits bs) h in
    omega (arith, digit_below b parts.0, values_small bs parts.1)

pub ones_small : (bs : List ℕ) → length bs ≡ 8 → T (all_digits bs) → ones_in (value bs) ≤ 0x0f0f_0f0f_0f0f_0f0f
unfolding lows
ones_small bs long h = rw (ones_in_lem bs long h) (rw long at (values_small bs h))

-- the number that eight digits stand for, joined from their values
eight_values : (bs : List ℕ) → length bs ≡ 8
    → (joined 65536 (joined 256 (joined 16 (values_of bs))) ≡ hex_value bs ∷ [])
    × (length (joined 256 (joined 16 (values_of bs))) ≡ 2)
    × (length (joined 16 (values_of bs)) ≡ 4)
unfolding joined values_of hex_value gone_on
eight_values bs long =
    of_eight
    (λ (l : List ℕ).
    (joined 65536 (joined 256 (joined 16 (values_of l))) ≡ hex_value l ∷ [])
    × (length (joined 256 (joined 16 (values_of l))) ≡ 2)
    × (length (joined 16 (values_of l)) ≡ 4))
    (λ b₀ b₁ b₂ b₃ b₄ b₅ b₆ b₇. (ap (λ (n : ℕ). n ∷ []) (omega arith), refl, refl))
    bs long

pub word_in_lem : (bs : List ℕ) → length bs ≡ 8 → T (all_digits bs) → word_in (value bs) ≡ hex_value bs
unfolding lows fields
word_in_lem bs long h =
    let all = eight_values bs long in
    let ones : List ℕ = values_of bs in
    let twos : List ℕ = joined 16 ones in
    let fours : List ℕ = joined 256 twos in
    let ones_below : Below 16 ones = values_below bs h in
    let twos-below : Below 256 twos = joined_below (bases 16 (lit< tt)) ones ones_below in
    let fours-below : Below 65536 fours = joined_below (bases 256 (lit< tt)) twos twos-below in
    let last : length (joined 65536 fours) ≡ 1 = ap length all.0 in
    let low : bit_and (overlapped 65536 4294967296 (fours_in (value bs))) 0xffff_ffff ≡ hex_value bs =
    rw (
      ones_in_lem bs long h,
      join_masked 8 4 (bases 16 (lit< tt)) ones ones_below all.2 refl,
      join_masked 16 2 (bases 256 (lit< tt)) twos twos-below all.1 refl,
      join_masked 32 1 (bases 65536 (lit< tt)) fours fours-below last refl,
      all.0,
    )
    (omega arith) in
    sym (and_mask (overlapped 65536 4294967296 (fours_in (value bs))) 32) ∙ low

-- what each step keeps below

pub twos_small : (x : ℕ) → twos_in x ≤ 0x00ff_00ff_00ff_00ff
twos_small x = and_le_r (overlapped 16 256 (ones_in x)) 0x00ff_00ff_00ff_00ff

pub fours_small : (x : ℕ) → fours_in x ≤ 0x0000_ffff_0000_ffff
fours_small x = and_le_r (overlapped 256 65536 (twos_in x)) 0x0000_ffff_0000_ffff

-- ---- the first eight digits of a frame hold its call and its stream

head_parts : (bs : List ℕ) → length bs ≡ 8 → T (all_digits bs)
    → (hex_value bs / 16777216 ≡ hex_value (part 0 2 bs)) × (hex_value bs / 65536 % 256 ≡ hex_value (part 2 2 bs))
unfolding values_of hex_value gone_on part
head_parts bs long h =
    of_eight
    (λ (l : List ℕ).
    Below 16 (values_of l) → (hex_value l / 16777216 ≡ hex_value (part 0 2 l)) × (hex_value l / 65536 % 256 ≡ hex_value (part 2 2 l)))
    (λ b₀ b₁ b₂ b₃ b₄ b₅ b₆ b₇ small. (omega arith, omega arith))
    bs long (values_below bs h)

part_front : (at k : ℕ) (xs ys : List ℕ) → at + k ≤ length xs → part at k (xs ++ ys) ≡ part at k xs
unfolding part
part_front at k xs ys fits =
    let inside : at ≤ length xs = omega arith in
    rw (drop-append-le at xs ys inside, take-append-le k (drop at xs) ys (simp length-drop (omega arith)))

part_head : (at k : ℕ) (s : List ℕ) → at + k ≤ 8 → 8 ≤ length s → part at k (part 0 8 s) ≡ part at k s
part_head at k s inside fits =
    let front : part 0 8 s ++ drop 8 s ≡ s = part_and_rest 0 8 s in
    rw front at (sym (part_front at k (part 0 8 s) (drop 8 s) (rw (length_part 0 8 s fits) inside)))

pub call_and_stream : (line : List ℕ) → 8 ≤ length line → T (all_digits line)
    → (hex_value (part 0 8 line) / 16777216 ≡ hex_value (part 0 2 line)) × (hex_value (part 0 8 line) / 65536 % 256 ≡ hex_value (part 2 2 line))
call_and_stream line fits h =
    let found = head_parts (part 0 8 line) (length_part 0 8 line fits) (digits_part 0 8 line h) in
    rw (part_head 0 2 line (lit≤ tt) fits, part_head 2 2 line (lit≤ tt) fits) at found
