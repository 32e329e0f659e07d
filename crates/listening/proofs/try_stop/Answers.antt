-- It is entered, with no refusal left: the step of its plan gave the figures after it.
use Rattle.listening.proofs.Trying.{stop_put, stop_entered}
use Rattle.listening.proofs.try_stop.Goals as goal

pub put_entry-requires : goal.put_entry-requires
put_entry-requires c =
    stop_put _ _ _ c.in_ok-standing.ensures c.in_ok-stop.ensures _ _ c.enter_stop.ensures c.in_ok-after.ensures.ok_part

pub returns : goal.returns
returns c =
    stop_entered _ _ _ c.in_ok-standing.ensures c.in_ok-stop.ensures _ _ c.enter_stop.ensures c.in_ok-after.ensures.ok_part
    _ _ _ _ c.gives.ensures c.no_recording.ensures c.with_one-record.ensures c.put_entry.ensures
