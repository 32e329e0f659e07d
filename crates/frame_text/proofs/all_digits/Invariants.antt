use mathlib.Core.Path.{◌≡◌}
use lib.ListN.{take}
use Rattle.frame_text.specs.Digits.{all_digits}
use Rattle.frame_text.proofs.all_digits.Given as goal

abbrev pub invariant-loop-b : goal.invariant-loop-b
invariant-loop-b l = l.all ≡ all_digits (take l.b-index l.line)
