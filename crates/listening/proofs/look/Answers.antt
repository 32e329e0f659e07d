-- What is read is the stream's area, as an array.
use Rattle.listening.proofs.Looking.{looked_read, part_lent}
use mathlib.Core.Path.{◌∙◌}
use native.Mathlib.Omega.{arith}
use Rattle.listening.proofs.look.Goals as goal

pub returns : goal.returns
returns c =
    c.read.ensures
    ∙ looked_read _ _ _ c.if-store-ne-STORE_LENGTH.false (omega (arith, c.if-stream-ge-STREAMS.false)) (c.in-Some.ensures.cases.same ∙ part_lent _ _ c.start_of-start.ensures)
