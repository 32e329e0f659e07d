-- `records::put_plan` meets its contract: the writes are neighbours.
-- Assumes nothing.
use native.Mathlib.Omega.{arith}
use mathlib.Core.Path.{refl}
use Rattle.little.specs.Little.{bytes, part}
use Rattle.model.specs.Area.{header_of}
use Rattle.little.proofs.Laws.{then_written}
use Rattle.records.proofs.put_plan.Goals as goal

pub returns : goal.returns
unfolding header_of bytes part
returns c = λ f.
    let a = then_written 0 _ _ _ c.put_start.ensures c.put.ensures refl (omega arith) in
    let b = then_written 0 _ _ _ a c.put-2.ensures refl (omega arith) in
    then_written 0 _ _ _ b c.put-3.ensures refl (omega arith)
