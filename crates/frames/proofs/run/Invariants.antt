use Rattle.frames.proofs.Laws.{Progress}
use Rattle.frames.proofs.run.Given as goal

abbrev pub invariant-loop : goal.invariant-loop
invariant-loop l = Progress l.store l.line
