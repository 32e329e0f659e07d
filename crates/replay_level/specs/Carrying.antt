-- The figures of a level stream in six numbers: paper 01, "Level lots". Assumes nothing.
use Rattle.std.specs.Prelude.{ℕ, Bool, ◌&&◌, eqb, leb}
use Rattle.plans.specs.Tables.{level_sample}
use Rattle.model.specs.declared.Figures.{Figures}
use Rattle.replaying.specs.LotStreams.{lot_figures}
use Rattle.replay_level.specs.declared.Carried.{Carried}

-- the figures that the numbers stand for; those foreign to the plan are zero
unfoldable pub figures_in : Carried → Figures
figures_in s = lot_figures 0 s.state s.accepted s.above

-- what refusal 13 leaves of d and D, of the sample that was asked
unfoldable pub fits_sample : ℕ → ℕ → ℕ → ℕ → ℕ → Bool
fits_sample vl severity N d D = eqb D d && leb d (level_sample vl severity N)
