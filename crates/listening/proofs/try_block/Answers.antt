-- It is entered, with no refusal left: the step of its plan gave the figures after it.
use Rattle.listening.proofs.Trying.{block_put, block_entered}
use Rattle.listening.proofs.try_block.Goals as goal

pub put_entry-requires : goal.put_entry-requires
put_entry-requires c =
    block_put _ _ _ _ _ c.in_ok-standing.ensures c.in_ok-block.ensures _ c.enter_block.ensures c.in_ok-after.ensures.ok_part c.in_ok-recorded.ensures

pub returns : goal.returns
returns c =
    block_entered _ _ _ _ _ c.in_ok-standing.ensures c.in_ok-block.ensures _ c.enter_block.ensures c.in_ok-after.ensures.ok_part c.in_ok-recorded.ensures
    _ _ _ c.block-answer.ensures c.with_one-record.ensures c.put_entry.ensures
