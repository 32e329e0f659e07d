-- It is entered, with no refusal left: the step of its plan gave the figures after it.
use Rattle.listening.proofs.Trying.{lot_put, lot_entered}
use Rattle.listening.proofs.try_lot.Goals as goal

pub put_entry-requires : goal.put_entry-requires
put_entry-requires c =
    lot_put _ _ _ _ _ _ c.in_ok-standing.ensures c.in_ok-lot.ensures _ _ _ c.enter_lot.ensures c.in_ok-after.ensures.ok_part c.in_ok-recorded.ensures

pub returns : goal.returns
returns c =
    lot_entered _ _ _ _ _ _ c.in_ok-standing.ensures c.in_ok-lot.ensures _ _ _ c.enter_lot.ensures c.in_ok-after.ensures.ok_part c.in_ok-recorded.ensures
    _ _ c.lot-answer.ensures c.put_entry.ensures
