use Rattle.std.proofs.Common.{ℕ, ◌<◌, [], slice_index_or}
use Rattle.records.proofs.Windows.{IsZero}
use Rattle.records.proofs.is_zero_from.Given as goal

abbrev pub invariant-loop-window : goal.invariant-loop-window
invariant-loop-window l = (k : ℕ) → k < l.window-index → IsZero (slice_index_or l.windows k [])
