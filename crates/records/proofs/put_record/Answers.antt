-- `records::put_record` meets its contract: the writes are neighbours, and their bytes the record's.
-- Assumes nothing.
use native.Mathlib.Omega.{arith}
use mathlib.Core.Path.{refl}
use Rattle.little.specs.Little.{bytes}
use Rattle.model.specs.Records.{recording_bytes, record_bytes}
use Rattle.little.proofs.Laws.{then_written}
use Rattle.records.proofs.put_record.Goals as goal

pub returns : goal.returns
unfolding bytes recording_bytes record_bytes
returns c =
    let a = then_written _ _ _ _ c.put_start.ensures c.put.ensures refl (omega arith) in
    let b = then_written _ _ _ _ a c.put-2.ensures refl (omega arith) in
    let third = then_written _ _ _ _ b c.put-3.ensures refl (omega arith) in
    let fourth = then_written _ _ _ _ third c.put-4.ensures refl (omega arith) in
    then_written _ _ _ _ fourth c.put_recording.ensures refl (omega arith)
