-- What a block leaves is the state of `plans` after it.
use Rattle.replay_continuous.proofs.Steps.{block_steps}
use Rattle.replay_continuous.proofs.Place.step_block.Goals as goal

pub after-requires : goal.after-requires
after-requires c = search block_steps

pub returns : goal.returns
returns c = search block_steps
