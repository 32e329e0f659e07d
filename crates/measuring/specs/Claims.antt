-- What is claimed of the definitions, for every sample. Assumes nothing.
use Rattle.std.specs.Prelude.{◌-◌, ◌≡◌, List, T, length, ℤ, pos}
use Rattle.std.specs.Int.Signed.{non_neg}
use Rattle.measuring.specs.Fractions.{ratio, times}
use Rattle.measuring.specs.Samples.{corrected_squares, spread, sample_of, variance}

pub record SpreadIs (xs : List ℤ) : Type 0 where
  -- the corrected sum of squares, line 6 of Table D.3, is S / n
  pub line6 : corrected_squares xs ≡ ratio (spread xs) (length xs)
  -- the variance, line 7, is that over n - 1
  pub line7 : variance (sample_of xs) ≡ times (corrected_squares xs) (ratio (pos 1) (length xs - 1))
  -- S is never negative
  pub not_negative : T (non_neg (spread xs))
