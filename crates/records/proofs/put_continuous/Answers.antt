-- `records::put_continuous` meets its contract: the writes and the stores are neighbours.
-- Assumes nothing.
use native.Mathlib.Omega.{arith}
use mathlib.Core.Path.{refl}
use Rattle.little.specs.Little.{bytes, part}
use Rattle.model.specs.Area.{header_of}
use Rattle.little.proofs.Laws.{then_written, then_set}
use Rattle.records.proofs.put_continuous.Goals as goal

pub returns : goal.returns
unfolding header_of bytes part
returns c = λ p n.
    let phase = then_set 24 _ c.args.figures.continuous.phase _ c.put.ensures refl (omega arith) in
    let unused = then_set 24 _ 0 _ phase refl (omega arith) in
    then_written 24 _ _ _ unused c.put-2.ensures refl (omega arith)
