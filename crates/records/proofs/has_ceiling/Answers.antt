-- `records::has_ceiling` meets its contract: the ceiling and the zeros behind it are compared where they stand.
-- Assumes nothing.
use native.Mathlib.Omega.{arith}
use mathlib.Core.Path.{refl}
use lib.Dec.{lit<}
use Rattle.little.specs.Little.{bytes, part}
use Rattle.model.specs.Area.{header_of}
use Rattle.records.proofs.Laws.{number_compares, both_compare}
use Rattle.records.proofs.has_ceiling.Goals as goal

pub returns : goal.returns
unfolding header_of bytes part
returns c = λ p n f e.
    let area = c.args.area.now in
    let are-bytes = c.fits-area in
    let ceiling = number_compares 40 4 c.args.ceiling area are-bytes (omega arith) (omega arith) c.get.ensures in
    let zeros = number_compares 44 4 0 area are-bytes (omega arith) (lit< tt) c.get-2.ensures in
    rw e (both_compare ceiling zeros refl).decides
