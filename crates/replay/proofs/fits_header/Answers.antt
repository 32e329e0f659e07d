-- The header is compared with the figures after the newest records; where one of these cannot stand, it fits none.
use mathlib.Core.Path.{sym, ◌∙◌}
use Rattle.replaying.proofs.Turns.{all_stand, one_fails, figures_after}
use Rattle.replay.proofs.Readings.{fits_stored, fits_no_failed}
use Rattle.replay.proofs.fits_header.Goals as goal

pub returns-in-Ok : goal.returns-in-Ok
returns-in-Ok c =
    let gives = sym c.in-Ok.is ∙ c.replay.ensures in
    fits_stored _ _ _ _ _ (all_stand _ _ _ _ gives) (figures_after _ _ _ _ gives) c.has_header-in-Ok.ensures

pub returns-in-Err : goal.returns-in-Err
returns-in-Err c = fits_no_failed _ _ _ (one_fails _ _ _ _ (sym c.in-Err.is ∙ c.replay.ensures))
