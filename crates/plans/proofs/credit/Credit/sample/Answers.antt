-- The quotient is clause 10 a)'s with note 1's usable credit, and rounding up gives the least whole number that is not below it.
use native.Mathlib.Omega.{arith}
use Rattle.plans.specs.Credit.{sample_dividend, sample_divisor}
use Rattle.plans.proofs.RoundedUp.{ceiling_rounds, rounded_up_least}
use Rattle.plans.proofs.credit.Credit.sample.Goals as goal

pub returns-clause-least : goal.returns-clause-least
unfolding sample_dividend sample_divisor
returns-clause-least c = rw (c.div_ceil.ensures, ceiling_rounds _ _, c.usable-usable.ensures) (rounded_up_least _ _ (omega arith))
