use Rattle.std.proofs.Common.{◌≡◌, ◌≤◌}
use lib.ListN.{take}
use Rattle.measuring.specs.Judging.{outside}
use Rattle.measuring.proofs.ranges.Checked.outside.Given as goal

abbrev pub invariant-loop-x : goal.invariant-loop-x
invariant-loop-x l = (l.count ≡ outside l.lower l.upper (take l.x-index l.values)) × (l.count ≤ l.x-index)
