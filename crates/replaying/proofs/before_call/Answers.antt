-- The numbers stand for the figures, so that what is known of these is known of the numbers.
use mathlib.Core.Path.{sym, ◌∙◌}
use Rattle.replaying.proofs.Ended.{ended_entry}
use Rattle.replaying.proofs.Reached.{call_on}
use Rattle.replaying.proofs.before_call.Goals as goal

pub returns-then-has_ended : goal.returns-then-has_ended
returns-then-has_ended g c =
    let over = c.has_ended in
    rw (← c.of-begun.ensures.0) (ended_entry c.args.plan (g.N.Numbers.shown c.args.plan c.of-begun.result) over.result over.ensures.0 over.ensures.1 c.if-has_ended.true)

pub returns : goal.returns
returns g c =
    let begun = c.of-begun.ensures in
    let goes_on = sym c.has_ended.ensures.0 ∙ c.if-has_ended.false in
    (record { on = call_on _ _ _ _ _ c.requires.1 begun.1 _ begun.0 c.requires.0; goes_on = goes_on }, begun.0)
