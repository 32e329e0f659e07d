use Rattle.std.proofs.Common.{◌≡◌, ◌+◌, ◌-◌}
use Rattle.little.specs.Little.{bytes, written}
use Rattle.little.proofs.put.Given as goal

abbrev pub invariant-loop-i : goal.invariant-loop-i
invariant-loop-i g l =
    written (l.at + l.i) (bytes (g.W.Word.WIDTH - l.i) l.rest) l.s ≡ written l.at (bytes g.W.Word.WIDTH (g.W.Word.number l.fn.x)) l.initial.s
