-- By its head a stop whose why is 2; the other answers follow in the same way.
use Rattle.replaying.proofs.Heads.{whys}
use Rattle.replaying.proofs.why_of.Goals as goal

pub returns-in-516 : goal.returns-in-516
returns-in-516 c = search whys
