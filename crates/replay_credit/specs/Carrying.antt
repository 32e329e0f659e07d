-- The figures of a credit stream in three numbers: paper 01, "Credit lots". Assumes nothing.
use Rattle.model.specs.declared.Figures.{Figures}
use Rattle.model.specs.Figuring.{no_level}
use Rattle.replaying.specs.LotStreams.{lot_figures}
use Rattle.replay_credit.specs.declared.Carried.{Carried}

-- the figures that the numbers stand for; those foreign to the plan are zero
unfoldable pub figures_in : Carried → Figures
figures_in s = lot_figures s.credit.0 no_level s.accepted s.above
