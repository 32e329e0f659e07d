-- One with another head than a lot's fails, since a stream for lots has no run or block.
use Rattle.replaying.proofs.LotStreams.{other_entered}
use Rattle.replaying.proofs.take_lot.Goals as goal

pub returns-then-head_of-ne-LOT : goal.returns-then-head_of-ne-LOT
returns-then-head_of-ne-LOT g c = search (other_entered, g.met.N.Lots.no_continuous)
