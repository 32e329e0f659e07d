-- What a run leaves is the state of `plans` after it.
use Rattle.replay_continuous.proofs.Steps.{runs}
use Rattle.replay_continuous.proofs.Place.step_run.Goals as goal

pub run-after-requires : goal.run-after-requires
run-after-requires c = search runs

pub after-requires : goal.after-requires
after-requires c = search runs

pub returns : goal.returns
returns c = search runs
