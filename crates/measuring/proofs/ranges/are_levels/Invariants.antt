use mathlib.Core.Path.{◌≡◌}
use lib.ListN.{take}
use Rattle.measuring.specs.Judging.{are_levels}
use Rattle.measuring.proofs.ranges.are_levels.Given as goal

abbrev pub invariant-loop-x : goal.invariant-loop-x
invariant-loop-x l = l.all ≡ are_levels (take l.x-index l.values)
