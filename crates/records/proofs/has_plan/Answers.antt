-- `records::has_plan` meets its contract: each field is compared where it stands.
-- Assumes nothing.
use native.Mathlib.Omega.{arith}
use mathlib.Core.Path.{refl}
use lib.Dec.{lit<}
use Rattle.little.specs.Little.{bytes, part}
use Rattle.model.specs.Area.{header_of, count_in}
use Rattle.records.proofs.Laws.{number_compares, byte_compares, both_compare}
use Rattle.records.proofs.has_plan.Goals as goal

pub returns : goal.returns
unfolding header_of count_in bytes part
returns c = λ f.
    let area = c.args.area.now in
    let p = c.args.plan in
    let fits = c.requires in
    let are-bytes = c.fits-area in
    let kind = byte_compares 0 p.kind area (omega arith) c.byte.ensures.0 in
    let option = byte_compares 1 p.option area (omega arith) c.byte-2.ensures.0 in
    let count = number_compares 2 2 c.args.count area are-bytes (omega arith) fits.counts c.get_count.ensures.0 in
    let a = number_compares 4 4 p.a area are-bytes (omega arith) (omega arith) c.get.ensures in
    let b = number_compares 8 2 p.b area are-bytes (omega arith) fits.intervals c.get-2.ensures in
    let two = number_compares 10 2 0 area are-bytes (omega arith) (lit< tt) c.get-3.ensures in
    (both_compare (both_compare (both_compare (both_compare (both_compare kind option refl) count refl) a refl) b refl) two refl).decides
