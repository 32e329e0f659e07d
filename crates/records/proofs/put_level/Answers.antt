-- `records::put_level` meets its contract: the stores are neighbours.
-- Assumes nothing.
use native.Mathlib.Omega.{arith}
use mathlib.Core.Path.{refl}
use Rattle.little.specs.Little.{bytes, part}
use Rattle.little.proofs.Laws.{set_written, then_set}
use Rattle.model.specs.Area.{header_of}
use Rattle.records.proofs.put_level.Goals as goal

pub returns : goal.returns
unfolding header_of bytes part
returns c = λ p n.
    let args = c.args in
    let state = args.figures.level in
    let level = set_written 20 state.level args.area.now (omega arith) in
    let row = then_set 20 _ state.row _ level refl (omega arith) in
    let judged = then_set 20 _ state.judged _ row refl (omega arith) in
    then_set 20 _ _ _ judged refl (omega arith)
