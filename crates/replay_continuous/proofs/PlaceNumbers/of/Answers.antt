-- The place taken from the figures stands for them.
use Rattle.replay_continuous.proofs.Steps.{begun}
use Rattle.replay_continuous.proofs.PlaceNumbers.of.Goals as goal

pub after-requires : goal.after-requires
after-requires c = search begun

pub returns : goal.returns
returns c = search begun
