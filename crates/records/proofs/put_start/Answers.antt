-- `records::put_start` meets its contract: the stores and the write are neighbours.
-- Assumes nothing.
use native.Mathlib.Omega.{arith}
use mathlib.Core.Path.{refl}
use mathlib.Core.List.{[], ◌∷◌}
use Rattle.little.specs.Little.{bytes}
use Rattle.little.proofs.Laws.{set_written, then_written, then_set}
use Rattle.records.proofs.put_start.Goals as goal

pub returns : goal.returns
unfolding bytes
returns c =
    let args = c.args in
    let kind = set_written args.at args.kind args.area.now (omega arith) in
    let beside = then_set args.at (args.kind ∷ []) args.beside args.area.now kind refl (omega arith) in
    then_written args.at (args.kind ∷ args.beside ∷ []) (bytes 2 args.behind) args.area.now beside c.put.ensures refl (omega arith)
