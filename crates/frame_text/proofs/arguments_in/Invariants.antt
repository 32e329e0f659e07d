use mathlib.Core.Path.{◌≡◌}
use lib.ListN.{take, length}
use Rattle.frame_text.specs.Frames.{arguments_to}
use Rattle.numbering.specs.Numbers.{frame_arguments}
use Rattle.frame_text.proofs.arguments_in.Given as goal

abbrev pub invariant-loop-k : goal.invariant-loop-k
invariant-loop-k l = (length l.argument-items ≡ frame_arguments) × (take l.k l.argument-items ≡ arguments_to l.line l.k)
