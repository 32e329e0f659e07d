-- Credit lots: document 004 (ISO 28593), clauses 9 and 10; paper 01, "Credit lots"; paper 02, card 3. Assumes nothing.
use Rattle.std.specs.Prelude.{ℕ, ◌+◌, ◌*◌, ◌/◌, ◌%◌, ◌≤◌, min, Bool, cond, ◌||◌, eqb}
use Rattle.plans.specs.Verdicts.{lot_accepted, lot_heard, lot_withheld}

-- a / b rounded up to a whole number
unfoldable pub rounded_up : ℕ → ℕ → ℕ
rounded_up a b = cond (eqb (a % b) 0) (a / b) (a / b + 1)

-- n is the least whole number not below a / b
pub record LeastNotBelow (a b n : ℕ) : Type 0 where
  pub not_below : a ≤ n * b
  pub least : (m : ℕ) → a ≤ m * b → n ≤ m

-- clause 10, note 1: the usable credit is the smaller of the credit K and the upper limit Kmax imposed on it; a Kmax of 0 imposes none
-- (paper 02, card 3)
unfoldable pub usable_credit : ℕ → ℕ → ℕ
usable_credit K Kmax = cond (eqb Kmax 0) K (min K Kmax)

-- clause 10 a), formula (1), as note 1 has it, times a million, with the AOQL in millionths: the quotient
-- N / ((min(K, Kmax) + N) a + 1) is sample_dividend N / sample_divisor K Kmax N A
unfoldable pub sample_dividend : ℕ → ℕ
sample_dividend N = N * 1000000

unfoldable pub sample_divisor : ℕ → ℕ → ℕ → ℕ → ℕ
sample_divisor K Kmax N A = (usable_credit K Kmax + N) * A + 1000000

-- clause 10 a): the quotient of the formula, rounded up to a whole number
unfoldable pub credit_sample : ℕ → ℕ → ℕ → ℕ → ℕ
credit_sample K Kmax N A = rounded_up (sample_dividend N) (sample_divisor K Kmax N A)

-- clause 10 b) and c): a lot that is not accepted is heard whole where the credit was 0, or where that was agreed (option 1)
unfoldable pub credit_verdict : ℕ → Bool → ℕ → ℕ
credit_verdict K hear_all d = cond (eqb d 0) lot_accepted (cond (eqb K 0 || hear_all) lot_heard lot_withheld)

-- clause 10 b) and c): the credit grows by the size of an accepted lot, and is 0 after any other
unfoldable pub credit_after : ℕ → ℕ → ℕ → ℕ
credit_after K N d = cond (eqb d 0) (K + N) 0
