use Rattle.std.proofs.Common.{take}
use Rattle.lists.specs.Lists.{requests_in}
use Rattle.lists.proofs.ListLaws.{MadeTo}
use Rattle.lists.proofs.make_all.Given as goal

abbrev pub invariant-loop-i : goal.invariant-loop-i
invariant-loop-i l = MadeTo l.initial.store l.initial.answers (requests_in (take l.i l.calls)) l.i l.store l.answers
