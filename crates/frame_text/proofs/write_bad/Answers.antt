-- The three bytes that were copied stand where the lent part was.
use Rattle.std.proofs.lemmas.List.{drop-drop}
use Rattle.frame_text.specs.Answers.{bad_text}
use Rattle.little.specs.Little.{written}
use mathlib.Core.Path.{◌≡◌, refl}
use Prim.Native.Nat.{◌+◌, ◌-◌}
use native.Mathlib.Omega.{arith}
use Rattle.frame_text.proofs.write_bad.Goals as goal

pub returns : goal.returns
unfolding bad_text written
returns c =
    let three : c.args.at + 3 - c.args.at ≡ 3 = omega arith in
    rw (c.copy_from_slice.ensures.after, three, drop-drop 3 c.args.at c.args.out.now) refl
