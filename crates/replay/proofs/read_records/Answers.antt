-- Unsound where an older record could not stand; and opened where all of it is as calls leave it: the older records stand, the header holds
-- the figures after all, and nothing stands behind the last.
use Rattle.replaying.proofs.Turns.{figures_after}
use Rattle.replay.proofs.Readings.{says_failed, says_opened}
use mathlib.Core.Path.{sym, ◌∙◌}
use Rattle.replay.proofs.read_records.Goals as goal

pub returns-in_default : goal.returns-in_default
returns-in_default c =
    says_failed c.args.newest c.args.area.now c.args.plan c.args.count c.requires _ _ c.saturating_sub-first.ensures
    (sym c.in_default.is ∙ c.replay.ensures)

pub returns : goal.returns
returns c =
    let gives = sym c.in-Ok.is ∙ c.replay.ensures in
    let before = rw c.saturating_sub-first.ensures at (figures_after _ _ _ _ gives) in
    says_opened c.args.newest c.args.area.now c.args.plan c.args.count c.requires _ c.fits-area before
    (c.fits_header.ensures.shows c.if-not-fits_header.false)
    (c.is_zero_from.ensures.shows c.if-not-is_zero_from.false)
