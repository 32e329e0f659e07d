-- A stream that has ended takes no record.
use Rattle.replaying.proofs.Ended.{ended_tells}
use Rattle.replaying.proofs.next.Goals as goal

pub returns-then-has_ended : goal.returns-then-has_ended
returns-then-has_ended g c = search ended_tells
