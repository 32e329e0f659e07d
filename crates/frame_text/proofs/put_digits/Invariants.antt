use Rattle.frame_text.specs.Digits.{digits_of}
use mathlib.Core.Path.{◌≡◌}
use Rattle.little.specs.Little.{written}
use Rattle.frame_text.proofs.put_digits.Given as goal

abbrev pub invariant-loop-i : goal.invariant-loop-i
invariant-loop-i l = written l.at (digits_of l.i l.rest) l.out ≡ written l.at (digits_of l.width l.n) l.initial.out
