-- The figures of a stream for lots in the few numbers that its replay carries: credit or level, how many are accepted, and the least
-- label above the newest lot's. Assumes nothing.
use Rattle.std.specs.Prelude.{ℕ}
use Rattle.plans.specs.Continuous.{screening}
use Rattle.plans.specs.declared.level.LevelState.{LevelState}
use Rattle.model.specs.declared.Figures.{Figures}

-- the figures that the numbers stand for; the continuous ones are foreign to lots, and zero
unfoldable pub lot_figures : ℕ → LevelState → ℕ → ℕ → Figures
lot_figures credit level accepted above =
    record {
      credit = record { 0 = credit };
      level = level;
      continuous = screening 0;
      accepted = accepted;
      above = above;
    }
