-- The numbers taken from the figures stand for them.
use Rattle.replay_level.proofs.Steps.{numbers_of}
use Rattle.replay_level.proofs.CarriedNumbers.of.Goals as goal

pub returns : goal.returns
returns c = search numbers_of
