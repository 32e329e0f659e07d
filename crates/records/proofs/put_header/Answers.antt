-- `records::put_header` meets its contract: the parts are neighbours.
-- Assumes nothing.
use native.Mathlib.Omega.{arith}
use mathlib.Core.Path.{refl}
use Rattle.little.specs.Little.{bytes, part}
use Rattle.model.specs.Area.{header_of}
use Rattle.little.proofs.Laws.{then_written}
use Rattle.records.proofs.Laws.{plan_fits}
use Rattle.records.proofs.put_header.Goals as goal

pub put_plan-requires : goal.put_plan-requires
put_plan-requires c = plan_fits _ _ c.requires.0 c.requires.1

pub returns : goal.returns
unfolding header_of bytes part
returns c =
    let p = c.args.plan in
    let n = c.args.count in
    let twelve = then_written 0 _ _ _ (c.put_plan.ensures c.args.figures) c.put.ensures refl (omega arith) in
    let credit = then_written 0 _ _ _ twelve c.put-2.ensures refl (omega arith) in
    let level = then_written 0 _ _ _ credit (c.put_level.ensures p n) refl (omega arith) in
    let continuous = then_written 0 _ _ _ level (c.put_continuous.ensures p n) refl (omega arith) in
    let accepted = then_written 0 _ _ _ continuous c.put-3.ensures refl (omega arith) in
    let ceiling = then_written 0 _ _ _ accepted c.put-4.ensures refl (omega arith) in
    then_written 0 _ _ _ ceiling c.put-5.ensures refl (omega arith)
