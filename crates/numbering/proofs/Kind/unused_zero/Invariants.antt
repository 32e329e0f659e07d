use Rattle.std.proofs.Common.{◌≡◌}
use Rattle.numbering.specs.Numbers.{unused_zero}
use Rattle.numbering.specs.Kinds.{number_of}
use Rattle.numbering.proofs.Kind.unused_zero.Given as goal

abbrev pub invariant-loop-i : goal.invariant-loop-i
invariant-loop-i l = l.zero ≡ unused_zero (number_of l.self) l.fn.arguments l.i
