-- How far the standing entries can take a stream's figures: paper 01, "The store", bytes 16 to 39. Credit and accepted detections grow
-- by at most a lot's size with each entry, and the rest is held by the refusals: so every figure fits its bytes, and no sum of
-- the code overflows. Assumes nothing.
use Rattle.std.specs.Prelude.{ℕ, ◌*◌, ◌-◌, ◌≤◌}
use Rattle.plans.specs.Limits.{largest_lot, largest_clearance, largest_interval}
use Rattle.plans.specs.LevelBounds.{LevelWithin}
use Rattle.model.specs.declared.Figures.{Figures}
use Rattle.model.specs.Sizes.{most_records}

-- the figures of a stream with at most n standing entries
pub record FiguresWithin (n : ℕ) (f : Figures) : Type 0 where
  pub credits : f.credit.0 ≤ largest_lot * n
  pub levels : LevelWithin n f.level
  pub counts : f.continuous.count ≤ largest_clearance
  pub phases : f.continuous.phase ≤ 1
  pub tails : f.continuous.tail ≤ largest_interval
  pub accepted_in : f.accepted ≤ largest_lot * n

-- the figures of a stream that has room for one entry more
abbrev pub FiguresWithRoom : Figures → Type 0
FiguresWithRoom f = FiguresWithin (most_records - 1) f
