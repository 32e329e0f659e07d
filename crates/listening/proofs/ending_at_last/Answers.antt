-- The area starts where `start_of` says.
use Rattle.listening.proofs.ending_at_last.Goals as goal

pub returns : goal.returns
returns c = cc
