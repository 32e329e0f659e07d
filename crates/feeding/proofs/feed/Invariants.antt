use lib.ListN.{length}
use Rattle.feeding.specs.Fed.{held}
use Rattle.feeding.proofs.Laws.{Onward}
use Rattle.feeding.proofs.feed.Given as goal

abbrev pub invariant-loop-rest : goal.invariant-loop-rest
invariant-loop-rest l = Onward (held l.initial.store l.initial.line) l.piece l.initial.out l.wrote l.store l.line l.rest l.out

abbrev pub decreases-loop-rest : goal.decreases-loop-rest
decreases-loop-rest l = length l.rest
