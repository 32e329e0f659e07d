-- `records::has_continuous` meets its contract: each field is compared where it stands.
-- Assumes nothing.
use native.Mathlib.Omega.{arith}
use mathlib.Core.Path.{refl}
use Rattle.little.specs.Little.{bytes, part}
use Rattle.model.specs.Area.{header_of}
use Rattle.records.proofs.Laws.{number_compares, byte_compares, both_compare}
use Rattle.records.proofs.has_continuous.Goals as goal

pub returns : goal.returns
unfolding header_of bytes part
returns c = λ p n f e.
    let area = c.args.area.now in
    let state = c.args.state in
    let are-bytes = c.fits-area in
    let count = number_compares 24 4 state.count area are-bytes (omega arith) (omega arith) c.get.ensures in
    let phase = byte_compares 28 state.phase area (omega arith) refl in
    let unused = byte_compares 29 0 area (omega arith) refl in
    let tail = number_compares 30 2 state.tail area are-bytes (omega arith) (omega arith) c.get-2.ensures in
    rw e (both_compare (both_compare (both_compare count phase refl) unused refl) tail refl).decides
