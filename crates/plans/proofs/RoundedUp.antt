-- Rounding up gives the least whole number not below the quotient, and a credit sample is from 1 to the whole lot.
-- Assumes nothing.
use Prim.Native.Nat.{ℕ, zero, suc, ◌+◌, ◌*◌, ◌/◌, ◌%◌, ◌≤◌, ◌<◌}
use mathlib.Core.Path.{◌≡◌, refl, ◌∙◌}
use mathlib.Core.Bool.{Bool, true, false, cond}
use native.Mathlib.Nat.{
  div-add-mod',
  mod-lt,
  add-mul,
  one-mul,
  zero-mul,
  mul-le-mul,
  mul-le-mul_left,
  le_of_mul-le-mul_right,
  lt_of_mul-lt-mul_right,
}
use native.Mathlib.Omega.{arith}
use Rattle.std.specs.Prelude.{min}
use Rattle.std.specs.Int.{div_ceil}
use lib.Dec.{eqb}
use borrow.Author.Tests.{eqb-true, eqb-false}
use Rattle.plans.specs.Credit.{rounded_up, LeastNotBelow, usable_credit, sample_dividend, sample_divisor, credit_sample, credit_after}
use Rattle.plans.specs.Limits.{largest_lot, largest_credit, largest_aoql}
use Rattle.plans.proofs.Booleans.{either}

module _ (a b : ℕ) (positive : 0 < b) where
  pub rounded_up_least : LeastNotBelow a b (rounded_up a b)
  unfolding rounded_up
  rounded_up_least = go (eqb (a % b) 0) refl
    where
      go : (exact : Bool) → eqb (a % b) 0 ≡ exact → LeastNotBelow a b (cond exact (a / b) (a / b + 1))
      go true e =
          record {
            not_below = omega (arith, div-add-mod' a b, eqb-true (a % b) 0 e);
            least = λ m h. le_of_mul-le-mul_right (omega (arith, div-add-mod' a b, eqb-true (a % b) 0 e)) positive;
          }
      go false e =
          record {
            not_below = omega (arith, div-add-mod' a b, mod-lt a positive, add-mul (a / b) 1 b, one-mul b);
            least = λ m h. omega (arith, lt_of_mul-lt-mul_right b {m = a / b} {n = m} (omega (arith, div-add-mod' a b, eqb-false (a % b) 0 e)));
          }

-- the library's rounded quotient is the definition's
pub ceiling_rounds : (a b : ℕ) → div_ceil a b ≡ rounded_up a b
unfolding rounded_up
ceiling_rounds a b = go (eqb (a % b) 0) refl
  where
    go : (exact : Bool) → eqb (a % b) 0 ≡ exact → a / b + min 1 (a % b) ≡ cond exact (a / b) (a / b + 1)
    go true e = omega (arith, eqb-true (a % b) 0 e)
    go false e = omega (arith, eqb-false (a % b) 0 e)

-- no more credit is usable than there is
pub usable_at_most : (K Kmax : ℕ) → usable_credit K Kmax ≤ K
unfolding usable_credit
usable_at_most K Kmax = either (λ (x : ℕ). x ≤ K) (eqb Kmax 0) (omega arith) (omega arith)

module _ (K Kmax N A : ℕ) where
  divisor_positive : 0 < sample_divisor K Kmax N A
  unfolding sample_divisor
  divisor_positive = omega arith

  -- what the code works out from the usable credit is the sample
  pub sample_of_usable : (usable n : ℕ) → usable ≡ usable_credit K Kmax → n ≡ rounded_up (N * 1000000) ((usable + N) * A + 1000000)
      → n ≡ credit_sample K Kmax N A
  unfolding credit_sample sample_dividend sample_divisor
  sample_of_usable usable n is rounded = rounded ∙ rw is

  pub credit_sample_least : LeastNotBelow (sample_dividend N) (sample_divisor K Kmax N A) (credit_sample K Kmax N A)
  unfolding credit_sample
  credit_sample_least = rounded_up_least (sample_dividend N) (sample_divisor K Kmax N A) divisor_positive

  pub credit_sample_at_most : credit_sample K Kmax N A ≤ N
  unfolding sample_dividend sample_divisor
  credit_sample_at_most = credit_sample_least.least N (mul-le-mul_left N (omega arith))

  pub credit_sample_at_least : 1 ≤ N → 1 ≤ credit_sample K Kmax N A
  unfolding sample_dividend
  credit_sample_at_least h = go (credit_sample K Kmax N A) credit_sample_least.not_below
    where
      go : (n : ℕ) → N * 1000000 ≤ n * sample_divisor K Kmax N A → 1 ≤ n
      go zero e = omega (arith, zero-mul (sample_divisor K Kmax N A))
      go (suc n) e = omega arith

  -- no sum or product of the formula overflows 64 bits
  pub product_at_most : K ≤ largest_credit → N ≤ largest_lot → A ≤ largest_aoql
      → (usable_credit K Kmax + N) * A ≤ (largest_credit + largest_lot) * largest_aoql
  product_at_most k n a =
      omega (arith, mul-le-mul {n₁ = usable_credit K Kmax + N} {n₂ = largest_credit + largest_lot} (omega (arith, usable_at_most K Kmax)) a)

-- a lot adds at most its size to the credit
pub credit_after_at_most : (K N d : ℕ) → credit_after K N d ≤ K + N
unfolding credit_after
credit_after_at_most K N d = either (λ (x : ℕ). x ≤ K + N) (eqb d 0) (omega arith) (omega arith)
