-- What a stop leaves is the state of `plans` after it.
use Rattle.replay_continuous.proofs.Steps.{stops}
use Rattle.replay_continuous.proofs.PlaceNumbers.stop.Goals as goal

pub after-requires : goal.after-requires
after-requires c = search stops

pub returns : goal.returns
returns c = search stops
