-- `records::put_recording` meets its contract: the writes are neighbours, and their bytes the recording's.
-- Assumes nothing.
use native.Mathlib.Omega.{arith}
use mathlib.Core.Path.{refl}
use Rattle.little.specs.Little.{bytes}
use Rattle.model.specs.Records.{recording_bytes}
use Rattle.little.proofs.Laws.{then_written}
use Rattle.records.proofs.put_recording.Goals as goal

pub returns : goal.returns
unfolding bytes recording_bytes
returns c = then_written _ _ _ _ c.put.ensures c.put-2.ensures refl (omega arith)
