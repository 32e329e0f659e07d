-- The size |z| of a whole number: of a sum, a difference and a product, and of a number that a signed width holds. A number that is small
-- enough for its width is read from its bits as it was written. Assumes nothing.
use mathlib.Core.Path.{◌≡◌, refl, ap, ◌∙◌}
use mathlib.Core.Bool.{Bool, true, false, cond}
use Prim.Native.Nat.{ℕ, zero, suc, ◌+◌, ◌-◌, ◌*◌, ◌≤◌, ◌<◌, ◌^◌}
use native.Mathlib.Nat.{le_refl}
use native.Mathlib.Omega.{arith}
use lib.Dec.{T, ltb}
use lib.IntN.{ℤ, pos, negsuc, ◌+ℤ◌, ◌-ℤ◌, ◌*ℤ◌, neg_ℤ, nat_abs, one, *ℤ-one}
use lib.Signed.{non_neg}
use mir.Syntax.{Width, w32, w64}
use mir.Val.{Fits, SFits, bits, hbits, to_z, of_z}
use mir.Facts.{to_z-of_z, Fits-of_lt, sfits_widen}
use Rattle.std.proofs.lemmas.Int.{fits_signed_from_abs}

-- |a + b| is at most |a| + |b|
pub size_sum : (a b : ℤ) → nat_abs (a +ℤ b) ≤ nat_abs a + nat_abs b
size_sum (pos a) (pos b) = le_refl (a + b)
size_sum (pos a) (negsuc b) = apart a b (ltb a (suc b))
  where
    apart : (a b : ℕ) (t : Bool) → nat_abs (cond t (negsuc (suc b - suc a)) (pos (a - suc b))) ≤ a + suc b
    apart a b true = omega arith
    apart a b false = omega arith
size_sum (negsuc a) (pos b) = apart b a (ltb b (suc a))
  where
    apart : (b a : ℕ) (t : Bool) → nat_abs (cond t (negsuc (suc a - suc b)) (pos (b - suc a))) ≤ suc a + b
    apart b a true = omega arith
    apart b a false = omega arith
size_sum (negsuc a) (negsuc b) = omega arith

size_negated : (z : ℤ) → nat_abs (neg_ℤ z) ≡ nat_abs z
size_negated (pos zero) = refl
size_negated (pos (suc n)) = refl
size_negated (negsuc n) = refl

-- |a - b| is at most |a| + |b|
pub size_difference : (a b : ℤ) → nat_abs (a -ℤ b) ≤ nat_abs a + nat_abs b
size_difference a b = omega (arith, size_sum a (neg_ℤ b), size_negated b)

-- |a b| is |a| |b|
pub size_product : (a b : ℤ) → nat_abs (a *ℤ b) ≡ nat_abs a * nat_abs b
size_product (pos a) (pos b) = refl
size_product (pos a) (negsuc b) = size_negated (pos (a * suc b))
size_product (negsuc a) (pos b) = size_negated (pos (suc a * b))
size_product (negsuc a) (negsuc b) = refl

-- z times 1 is z
pub times_one : (z : ℤ) → z *ℤ pos 1 ≡ z
unfolding one
times_one z = *ℤ-one z

-- z z is |z| |z|
pub square : (z : ℤ) → z *ℤ z ≡ pos (nat_abs z * nat_abs z)
square (pos n) = refl
square (negsuc n) = refl

-- z as the machine reads it from its bits
abbrev pub again : Width → ℤ → ℤ
again w z = to_z w (of_z w z)

module _ (w : Width) {z : ℤ} (small : nat_abs z < 2 ^ hbits w) where
  pub sized : SFits w z
  sized = fits_signed_from_abs w z small

  pub read : again w z ≡ z
  read = to_z-of_z sized

-- a number that fits is read as small as it is
pub near_again : {w : Width} {z : ℤ} {most : ℕ} → SFits w z → nat_abs z ≤ most → nat_abs (again w z) ≤ most
near_again fits near = rw (to_z-of_z fits) near

-- a number that is not negative can be cast to 64 bits, where the machine reads it as it is
pub casts : {y z : ℤ} → y ≡ z → T (non_neg z) → nat_abs z < 2 ^ bits w64 → T (non_neg y) × Fits w64 (nat_abs y)
casts is sign small = rw is (sign, Fits-of_lt small)

-- a 32-bit number, widened to 64 bits
module _ {z : ℤ} (short : SFits w32 z) where
  pub widened : again w64 (again w32 z) ≡ z
  widened = ap (again w64) (to_z-of_z short) ∙ to_z-of_z {w = w64} (sfits_widen tt short)
