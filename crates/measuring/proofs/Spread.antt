-- S is not negative, and how large the sums and S can be. Each is bounded by the sizes of the measurements: (Σ|x|)² is at most n Σ|x|²,
-- by induction with 2 a b ≤ a² + b². Assumes nothing.
use mathlib.Core.Path.{◌≡◌, refl, sym, ap, subst}
use mathlib.Core.Bool.{Bool, true, false, cond}
use mathlib.Core.List.{List, [], ◌∷◌}
use Prim.Native.Nat.{ℕ, zero, suc, ◌+◌, ◌-◌, ◌*◌, ◌≤◌}
use native.Mathlib.Decide.{dec_le}
use native.Mathlib.Nat.{one-mul, mul-le-mul, le_refl, le_trans, add-sub_of_le}
use native.Mathlib.Omega.{arith}
use borrow.Author.Tests.{ltb-true}
use lib.Dec.{T, ltb}
use lib.ListN.{length}
use lib.IntN.{ℤ, pos, negsuc, ◌-ℤ◌, ◌*ℤ◌, nat_abs, *ℤ_comm}
use lib.Signed.{non_neg}
use mir.Syntax.{w32, w64}
use mir.Val.{SFits, to_z}
use mir.ValLaws.{to_z-of_z, to_z_pos}
use Rattle.std.proofs.lemmas.Int.{unsigned_abs-mul}
use Rattle.measuring.specs.Fractions.{ratio, whole, minus, times}
use Rattle.measuring.specs.Samples.{Sample, sum_of, total, squares, correction_factor, corrected_squares, spread, sample_of, variance}
use Rattle.measuring.specs.Judging.{largest_sample, largest_level, are_levels}
use Rattle.measuring.specs.Working.{Ranged, Measured}
use Rattle.measuring.proofs.Sizes.{size_sum, times_one, square, sized, read, again}
use Rattle.measuring.proofs.Levels.{level_size, level_first}

-- Σ|x|
sizes : List ℤ → ℕ
sizes [] = 0
sizes (x ∷ xs) = nat_abs x + sizes xs

-- Σ|x|²
squared_sizes : List ℤ → ℕ
squared_sizes [] = 0
squared_sizes (x ∷ xs) = nat_abs x * nat_abs x + squared_sizes xs

total_size : (xs : List ℤ) → nat_abs (total xs) ≤ sizes xs
unfolding sizes total sum_of
total_size [] = omega arith
total_size (x ∷ xs) = omega (arith, size_sum x (sum_of (λ x. x) xs), total_size xs)

squares_are : (xs : List ℤ) → squares xs ≡ pos (squared_sizes xs)
unfolding squared_sizes squares sum_of
squares_are [] = refl
squares_are (x ∷ xs) = rw (square x, squares_are xs) refl

twice : (a b : ℕ) → 2 * (a * b) ≤ a * a + b * b
twice a b = go (dec_le a b)
  where
    apart : (a d : ℕ) → 2 * (a * (a + d)) ≤ a * a + (a + d) * (a + d)
    apart a d = omega arith

    go : Dec (a ≤ b) → 2 * (a * b) ≤ a * a + b * b
    go (yes h) = subst (λ (c : ℕ). 2 * (a * c) ≤ a * a + c * c) (add-sub_of_le h) (apart a (b - a))
    go (no h) = omega (arith, subst (λ (c : ℕ). 2 * (b * c) ≤ b * b + c * c) (add-sub_of_le {n = a} {m = b} (omega arith)) (apart b (a - b)))

cross : (a : ℕ) (xs : List ℤ) → 2 * (a * sizes xs) ≤ length xs * (a * a) + squared_sizes xs
unfolding sizes squared_sizes
cross a [] = omega arith
cross a (x ∷ xs) = omega (arith, twice a (nat_abs x), cross a xs)

cauchy : (xs : List ℤ) → sizes xs * sizes xs ≤ length xs * squared_sizes xs
unfolding sizes squared_sizes
cauchy [] = omega arith
cauchy (x ∷ xs) = omega (arith, cross (nat_abs x) xs, cauchy xs)

squared_total : (xs : List ℤ) → nat_abs (total xs) * nat_abs (total xs) ≤ length xs * squared_sizes xs
squared_total xs = le_trans (mul-le-mul (total_size xs) (total_size xs)) (cauchy xs)

difference_is : (a b : ℕ) → b ≤ a → pos a -ℤ pos b ≡ pos (a - b)
difference_is a zero h = ap pos (omega arith)
difference_is a (suc b) h = go (ltb a (suc b)) refl
  where
    go : (t : Bool) → ltb a (suc b) ≡ t → cond t (negsuc (suc b - suc a)) (pos (a - suc b)) ≡ pos (a - suc b)
    go true e = absurd (omega (arith, ltb-true a (suc b) e))
    go false e = refl

spread_is : (xs : List ℤ) → spread xs ≡ pos (length xs * squared_sizes xs - nat_abs (total xs) * nat_abs (total xs))
unfolding spread
spread_is xs = rw (squares_are xs, square (total xs)) (difference_is _ _ (squared_total xs))

pub never_negative : (xs : List ℤ) → T (non_neg (spread xs))
never_negative xs = rw (spread_is xs) tt

-- it is n times the corrected sum of squares
pub spread_line6 : (xs : List ℤ) → corrected_squares xs ≡ ratio (spread xs) (length xs)
unfolding corrected_squares correction_factor minus whole ratio spread
spread_line6 xs = rw (times_one (total xs *ℤ total xs), *ℤ_comm (squares xs) (pos (length xs)), one-mul (length xs)) refl

-- and the variance is that over n - 1
pub variance_line7 : (xs : List ℤ) → variance (sample_of xs) ≡ times (corrected_squares xs) (ratio (pos 1) (length xs - 1))
unfolding variance sample_of times ratio
variance_line7 xs = rw (spread_line6 xs, times_one (spread xs)) refl

-- how large the sums of levels in range are

total_at_most : (xs : List ℤ) → are_levels xs ≡ true → nat_abs (total xs) ≤ length xs * largest_level
unfolding total sum_of
total_at_most [] e = omega arith
total_at_most (x ∷ xs) e =
    let first = level_first x xs e in
    omega (arith, size_sum x (sum_of (λ x. x) xs), level_size x first.0, total_at_most xs first.1)

squares_at_most : (xs : List ℤ) → are_levels xs ≡ true → squared_sizes xs ≤ length xs * (largest_level * largest_level)
unfolding squared_sizes
squares_at_most [] e = omega arith
squares_at_most (x ∷ xs) e =
    let first = level_first x xs e in
    let short = level_size x first.0 in
    omega (arith, mul-le-mul {n₁ = nat_abs x} {m₁ = nat_abs x} {n₂ = largest_level} {m₂ = largest_level} short short, squares_at_most xs first.1)

products_at_most : (xs : List ℤ) → are_levels xs ≡ true → length xs * squared_sizes xs ≤ length xs * length xs * (largest_level * largest_level)
products_at_most xs e =
    omega (arith, mul-le-mul {n₁ = length xs} {m₁ = squared_sizes xs} {n₂ = length xs} {m₂ = length xs * (largest_level * largest_level)} (le_refl (length xs)) (squares_at_most xs e))

count_squared : {xs : List ℤ} → Ranged xs → length xs * length xs ≤ largest_sample * largest_sample
count_squared {xs} ranged = mul-le-mul {n₁ = length xs} {m₁ = length xs} {n₂ = largest_sample} {m₂ = largest_sample} ranged.few ranged.few

spread_at_most : (xs : List ℤ) → are_levels xs ≡ true → nat_abs (spread xs) ≤ length xs * length xs * (largest_level * largest_level)
spread_at_most xs e =
    rw (spread_is xs) (omega (arith, products_at_most xs e))

measured : (xs : List ℤ) → Ranged xs → Measured (sample_of xs)
unfolding sample_of
measured xs ranged =
    record {
      enough = ranged.enough;
      few = ranged.few;
      near = total_at_most xs ranged.levels;
      not_negative = never_negative xs;
      narrow = spread_at_most xs ranged.levels;
    }

-- ---- S as the code works it out, from the sums t and q that it has

module _ (xs : List ℤ) (ranged : Ranged xs) where
  squares_read : again w64 (squares xs) ≡ squares xs
  squares_read = read w64 (rw (squares_are xs) (omega (arith, squares_at_most xs ranged.levels, ranged.few)))

  total_small : nat_abs (total xs) ≤ largest_sample * largest_level
  total_small = omega (arith, total_at_most xs ranged.levels, ranged.few)

  pub sum_read : {u : ℤ} → u ≡ total xs → again w32 u ≡ total xs
  sum_read u-is = rw u-is (read w32 {z = total xs} (omega (arith, total_small)))

  abbrev product : ℤ → ℤ
  product q = to_z w64 (length xs) *ℤ again w64 q

  product_is : {q : ℤ} → q ≡ squares xs → product q ≡ pos (length xs) *ℤ squares xs
  product_is q-is = rw (q-is, to_z_pos w64 (length xs) (omega (arith, ranged.few)), squares_read) refl

  product_size : {q : ℤ} → q ≡ squares xs → nat_abs (product q) ≤ length xs * length xs * (largest_level * largest_level)
  product_size q-is = rw (product_is q-is, squares_are xs) (products_at_most xs ranged.levels)

  pub product_fits : {q : ℤ} → q ≡ squares xs → SFits w64 (product q)
  product_fits q-is = sized w64 (omega (arith, product_size q-is, count_squared ranged))

  module _ {t u : ℤ} (u-is : u ≡ total xs) (t-is : t ≡ again w32 u) where
    total_read : again w64 t ≡ total xs
    total_read = rw (t-is, sum_read u-is) (read w64 {z = total xs} (omega (arith, total_small)))

    abbrev whole_square : ℤ
    whole_square = again w64 t *ℤ again w64 t

    square_was : whole_square ≡ total xs *ℤ total xs
    square_was = rw total_read refl

    square_size : nat_abs whole_square ≤ length xs * length xs * (largest_level * largest_level)
    square_size = rw (square_was, unsigned_abs-mul (total xs) (total xs)) (omega (arith, squared_total xs, products_at_most xs ranged.levels))

    pub square_fits : SFits w64 whole_square
    square_fits = sized w64 (omega (arith, square_size, count_squared ranged))

    module _ {q : ℤ} (q-is : q ≡ squares xs) where
      abbrev difference : ℤ
      difference = again w64 (product q) -ℤ again w64 whole_square

      difference_was : difference ≡ spread xs
      unfolding spread
      difference_was =
          rw (to_z-of_z w64 (product q) (product_fits q-is), to_z-of_z w64 whole_square square_fits, product_is q-is, square_was) refl

      pub difference_fits : SFits w64 difference
      difference_fits = rw difference_was (sized w64 (omega (arith, spread_at_most xs ranged.levels, count_squared ranged)))

      pub worked_out_is : record { count = length xs; sum = again w32 u; spread = again w64 difference } ≡ sample_of xs
      unfolding sample_of
      worked_out_is = rw (to_z-of_z w64 difference difference_fits, difference_was, sum_read u-is) refl

pub measured_is : {xs : List ℤ} {s : Sample} → Ranged xs → s ≡ sample_of xs → Measured s
measured_is {xs} ranged e = subst Measured (sym e) (measured xs ranged)
