-- A sample's numbers: document 000, Table D.3, lines 1 to 7. Assumes nothing.
use Rattle.std.specs.Prelude.{◌-◌, ◌*◌, List, [], ◌∷◌, length, ℕ, ℤ, pos, ◌+ℤ◌, ◌-ℤ◌, ◌*ℤ◌}
use Rattle.measuring.specs.Fractions.{Fraction, ratio, whole, minus}

-- the sum of what f makes of each measurement
unfoldable pub sum_of : (ℤ → ℤ) → List ℤ → ℤ
sum_of f [] = pos 0
sum_of f (x ∷ xs) = f x +ℤ sum_of f xs

-- line 2, Σx
unfoldable pub total : List ℤ → ℤ
total xs = sum_of (λ x. x) xs

-- line 4, Σx²
unfoldable pub squares : List ℤ → ℤ
squares xs = sum_of (λ x. x *ℤ x) xs

-- line 5, the correction factor (Σx)² / n
unfoldable pub correction_factor : List ℤ → Fraction
correction_factor xs = ratio (total xs *ℤ total xs) (length xs)

-- line 6, the corrected sum of squares
unfoldable pub corrected_squares : List ℤ → Fraction
corrected_squares xs = minus (whole (squares xs)) (correction_factor xs)

-- S = n Σx² - (Σx)², n times line 6
unfoldable pub spread : List ℤ → ℤ
spread xs = pos (length xs) *ℤ squares xs -ℤ total xs *ℤ total xs

-- what the criteria ask of a sample: n, Σx and S
pub record Sample : Type 0 where
  pub count : ℕ
  pub sum : ℤ
  pub spread : ℤ

unfoldable pub sample_of : List ℤ → Sample
sample_of xs = record { count = length xs; sum = total xs; spread = spread xs }

-- line 3, the mean Σx / n
unfoldable pub mean : Sample → Fraction
mean sample = ratio sample.sum sample.count

-- line 7, the variance s²: the corrected sum of squares over n - 1, which is S / (n (n - 1))
unfoldable pub variance : Sample → Fraction
variance sample = ratio sample.spread (sample.count * (sample.count - 1))
