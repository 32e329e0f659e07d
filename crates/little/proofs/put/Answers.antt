-- `little::put` meets its contract. The loop's invariant: writing what is left gives the same list.
-- Assumes nothing.
use mathlib.Core.Path.{◌≡◌, sym, ◌∙◌}
use mathlib.Core.List.{List, [], ◌∷◌}
use Prim.Native.Nat.{ℕ, suc, ◌+◌, ◌-◌, ◌/◌, ◌%◌, ◌≤◌, ◌<◌}
use native.Mathlib.Nat.{add_assoc}
use native.Mathlib.Omega.{arith}
use lib.ListN.{length, set}
use Rattle.little.specs.Little.{bytes, written}
use Rattle.little.proofs.Laws.{length_bytes, written_nil, set_written, written_next}
use Rattle.little.proofs.put.Goals as goal

-- storing the first byte that is left, and then writing the others, writes them all
less-left : (at i width n : ℕ) (s : List ℕ) → i < width → at + width ≤ length s → written (at + (i + 1)) (bytes (width - (i + 1)) (n / 256)) (set s (at + i) (n % 256)) ≡ written (at + i) (bytes (width - i) n) s
unfolding bytes
less-left at i width n s h fits =
    let more : width - i ≡ suc (width - (i + 1)) = omega arith in
    rw (more, set_written (at + i) (n % 256) s (omega arith), ← add_assoc)
    (written_next (at + i) (n % 256 ∷ []) _ s (omega (arith, length_bytes (width - (i + 1)) (n / 256))))

pub loop-i-preserved : goal.loop-i-preserved
loop-i-preserved g c = less-left _ _ _ _ _ (omega arith) (omega arith) ∙ c.loop-i.invariant

pub returns : goal.returns
unfolding bytes
returns g c =
    let none : g.W.Word.WIDTH - c.loop-i.i ≡ 0 = omega arith in
    sym (written_nil (c.args.at + c.loop-i.i) c.loop-i.s) ∙ rw none at c.loop-i.invariant
