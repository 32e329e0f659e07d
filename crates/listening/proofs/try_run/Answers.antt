-- It is entered, with no refusal left: the step of its plan gave the figures after it.
use Rattle.listening.proofs.Trying.{run_put, run_entered}
use Rattle.listening.proofs.try_run.Goals as goal

pub put_entry-requires : goal.put_entry-requires
put_entry-requires c =
    run_put _ _ _ _ _ c.in_ok-standing.ensures c.in_ok-run.ensures _ c.enter_run.ensures c.in_ok-after.ensures.ok_part c.in_ok-recorded.ensures

pub returns : goal.returns
returns c =
    run_entered _ _ _ _ _ c.in_ok-standing.ensures c.in_ok-run.ensures _ c.enter_run.ensures c.in_ok-after.ensures.ok_part c.in_ok-recorded.ensures
    _ _ _ c.run-2.ensures c.with_one-record.ensures c.put_entry.ensures
