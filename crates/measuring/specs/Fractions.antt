-- Fractions: what the standard divides. Two are compared by cross-multiplication, so that nothing is rounded. Assumes nothing.
use Rattle.std.specs.Prelude.{ℕ, ◌*◌, Bool, ℤ, pos, ◌-ℤ◌, ◌*ℤ◌}
use Rattle.std.specs.Int.Signed.{le_z}

-- a whole number over a number, which is above 0 wherever a criterion is asked (n is at least 2)
pub record Fraction : Type 0 where
  pub over : ℤ
  pub under : ℕ

unfoldable pub ratio : ℤ → ℕ → Fraction
ratio a b = record { over = a; under = b }

unfoldable pub whole : ℤ → Fraction
whole a = ratio a 1

unfoldable pub minus : Fraction → Fraction → Fraction
minus p q = ratio (p.over *ℤ pos q.under -ℤ q.over *ℤ pos p.under) (p.under * q.under)

unfoldable pub times : Fraction → Fraction → Fraction
times p q = ratio (p.over *ℤ q.over) (p.under * q.under)

unfoldable pub squared : Fraction → Fraction
squared p = times p p

-- p is at most q
unfoldable pub at_most : Fraction → Fraction → Bool
at_most p q = le_z (p.over *ℤ pos q.under) (q.over *ℤ pos p.under)
