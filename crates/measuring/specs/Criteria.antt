-- The k and F criteria: document 000, 5.1.2.3.4, and Table D.3, lines 10 to 13. Squares are compared, so that no root is taken. Assumes
-- nothing.
use Rattle.std.specs.Prelude.{ℕ, Bool, ◌&&◌, ℤ, pos}
use Rattle.measuring.specs.Fractions.{Fraction, ratio, whole, minus, times, squared, at_most}
use Rattle.measuring.specs.Samples.{Sample, mean, variance}

-- how far the mean lies inside a limit, U - mean and mean - L: line 10's quality indices, times s
unfoldable pub below_upper : ℤ → Sample → Fraction
below_upper u sample = minus (whole u) (mean sample)

unfoldable pub above_lower : ℤ → Sample → Fraction
above_lower l sample = minus (mean sample) (whole l)

-- a) and b): such a distance over s is at least k, in hundredths: it is not negative, and its square is at least k² s². With s = 0 it is
-- enough that it is not negative (paper 02)
unfoldable pub meets_k : ℕ → Sample → Fraction → Bool
meets_k k sample distance =
    at_most (whole (pos 0)) distance && at_most (times (squared (ratio (pos k) 100)) (variance sample)) (squared distance)

-- c): s / (U - L), line 11, is at most F, in thousandths: s² is at most F² (U - L)², for L below U, which 19 leaves
unfoldable pub meets_f : ℕ → ℤ → ℤ → Sample → Bool
meets_f f l u sample = at_most (variance sample) (times (squared (ratio (pos f) 1000)) (squared (minus (whole u) (whole l))))
