-- How far the mean lies inside a limit: the distance n U - Σx, or Σx - n L, over n. The code's numbers are small enough for their
-- widths, so that what it reads is what the definitions say. Assumes nothing.
use mathlib.Core.Path.{◌≡◌, refl, ap, ◌∙◌}
use mathlib.Core.Bool.{true}
use Prim.Native.Nat.{ℕ, ◌+◌, ◌*◌, ◌≤◌, ◌<◌, ◌^◌}
use native.Mathlib.Nat.{mul-le-mul_left, one-mul, mul-one}
use native.Mathlib.Omega.{arith}
use lib.IntN.{ℤ, pos, ◌+ℤ◌, ◌-ℤ◌, ◌*ℤ◌, neg_ℤ, nat_abs, +ℤ_idl, +ℤ_comm, neg_ℤ-+ℤ, neg_ℤ-neg_ℤ, *ℤ_comm}
use mir.Syntax.{Width, w32}
use mir.Val.{SFits, hbits, to_z}
use mir.Facts.{to_z_pos}
use Rattle.std.proofs.Common.{Option, Some, None}
use Rattle.std.proofs.lemmas.Int.{unsigned_abs-mul}
use Rattle.measuring.specs.Fractions.{ratio, whole, minus}
use Rattle.measuring.specs.Samples.{Sample, mean}
use Rattle.measuring.specs.Criteria.{below_upper, above_lower}
use Rattle.measuring.specs.Judging.{largest_level, limit_in_range, to_upper, to_lower}
use Rattle.measuring.specs.Working.{largest_distance, Measured}
use Rattle.measuring.proofs.Sizes.{times_one, size_difference, again, sized, read}
use Rattle.measuring.proofs.Levels.{given_size}

pub below_upper_lem : (u : ℤ) (s : Sample) → below_upper u s ≡ ratio (to_upper (Some u) s) s.count
unfolding below_upper minus whole mean ratio to_upper
below_upper_lem u s = rw (times_one s.sum, *ℤ_comm u (pos s.count), one-mul s.count) refl

pub above_lower_lem : (l : ℤ) (s : Sample) → above_lower l s ≡ ratio (to_lower (Some l) s) s.count
unfolding above_lower minus whole mean ratio to_lower
above_lower_lem l s = rw (times_one s.sum, *ℤ_comm l (pos s.count), mul-one s.count) refl

-- two numbers of sizes of at most h, where the width holds twice h: they are read as they are, and their difference fits
module _ (w : Width) (a b : ℤ) (h : ℕ) (a_small : nat_abs a ≤ h) (b-small : nat_abs b ≤ h) (room : h + h < 2 ^ hbits w) where
  difference_is : again w a -ℤ again w b ≡ a -ℤ b
  difference_is = rw (read w {z = a} (omega arith), read w {z = b} (omega arith)) refl

  difference_size : nat_abs (a -ℤ b) ≤ h + h
  difference_size = omega (arith, size_difference a b)

  pub difference_fits : SFits w (again w a -ℤ again w b)
  difference_fits = rw difference_is (sized w (omega (arith, difference_size)))

  difference_read : again w (again w a -ℤ again w b) ≡ a -ℤ b
  difference_read = rw difference_is (read w (omega (arith, difference_size)))

  pub difference_done : (again w (again w a -ℤ again w b) ≡ a -ℤ b) × (nat_abs (again w (again w a -ℤ again w b)) ≤ h + h)
  difference_done = (difference_read, rw difference_read difference_size)

-- a distance, and how large it can be
abbrev pub IsDistance : ℤ → ℤ → Sample → Type 0
IsDistance r distance s = (r ≡ distance) × (nat_abs r ≤ s.count * (2 * largest_level))

-- n times a limit that is given, and the distances
module _ {s : Sample} (m : Measured s) {limit : Option ℤ} {x : ℤ} (given : limit ≡ Some x) (ranged : limit_in_range limit ≡ true) where
  abbrev product : ℤ
  product = to_z w32 s.count *ℤ again w32 x

  product_is : product ≡ pos s.count *ℤ x
  product_is = rw (to_z_pos w32 {n = s.count} (omega arith), read w32 {z = x} (omega (arith, given_size given ranged))) refl

  pub product_size : nat_abs product ≤ s.count * largest_level
  product_size = rw product_is (omega (arith, unsigned_abs-mul (pos s.count) x, mul-le-mul_left s.count (given_size given ranged)))

  pub product_fits : SFits w32 product
  product_fits = sized w32 (omega (arith, product_size))

  pub upper_done : IsDistance (again w32 (again w32 product -ℤ again w32 s.sum)) (to_upper limit s) s
  unfolding to_upper
  upper_done =
      let d = difference_done w32 product s.sum (s.count * largest_level) product_size m.near (omega arith) in
      (rw (given, ← product_is) d.0, omega (arith, d.1))

-- two numbers that are as large at most as n levels lie no further apart than a distance can be
module _ {s : Sample} (m : Measured s) (a b : ℤ) (a-near : nat_abs a ≤ s.count * largest_level) (b-near : nat_abs b ≤ s.count * largest_level) where
  pub apart_fits : SFits w32 (again w32 a -ℤ again w32 b)
  apart_fits = difference_fits w32 a b (s.count * largest_level) a-near b-near (omega (arith, m.few))

  pub apart_near : nat_abs (again w32 (again w32 a -ℤ again w32 b)) ≤ largest_distance
  apart_near = omega (arith, m.few, (difference_done w32 a b (s.count * largest_level) a-near b-near (omega (arith, m.few))).1)

-- the distance from a lower limit is n L - Σx with the other sign
turned_is : (limit : Option ℤ) (s : Sample) → pos 0 -ℤ to_upper limit s ≡ to_lower limit s
unfolding to_upper to_lower
turned_is (Some l) s =
    +ℤ_idl (neg_ℤ (pos s.count *ℤ l -ℤ s.sum))
    ∙ neg_ℤ-+ℤ (pos s.count *ℤ l) (neg_ℤ s.sum)
    ∙ ap (λ (z : ℤ). neg_ℤ (pos s.count *ℤ l) +ℤ z) (neg_ℤ-neg_ℤ s.sum)
    ∙ +ℤ_comm (neg_ℤ (pos s.count *ℤ l)) s.sum
turned_is None s = refl

-- whatever bounds the distance from an upper limit bounds the turned one
module _ (h : ℕ) (few : h ≤ largest_distance) (r : ℤ) (near : nat_abs r ≤ h) where
  turned_read : again w32 (pos 0 -ℤ again w32 r) ≡ pos 0 -ℤ r
  turned_read =
      rw (read w32 {z = r} (omega (arith, few, near))) (read w32 {z = pos 0 -ℤ r} (omega (arith, size_difference (pos 0) r, few, near)))

  pub turned_fits : SFits w32 (pos 0 -ℤ again w32 r)
  turned_fits = rw (read w32 {z = r} (omega (arith, few, near))) (sized w32 (omega (arith, size_difference (pos 0) r, few, near)))

  pub turned_done : (limit : Option ℤ) (s : Sample) → r ≡ to_upper limit s
      → (again w32 (pos 0 -ℤ again w32 r) ≡ to_lower limit s) × (nat_abs (again w32 (pos 0 -ℤ again w32 r)) ≤ h)
  turned_done limit s is = (turned_read ∙ rw is (turned_is limit s), rw turned_read (omega (arith, size_difference (pos 0) r, near)))
