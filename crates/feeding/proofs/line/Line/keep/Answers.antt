-- A byte is kept by a store where the zeros begin, or the line is full and stays.
use mathlib.Core.Path.{sym, ap, ◌∙◌}
use mathlib.Core.List.{List}
use Prim.Native.Nat.{ℕ}
use Rattle.frame_text.specs.Feeding.{kept}
use Rattle.feeding.proofs.Laws.{held_line, kept_byte, not_kept}
use Rattle.feeding.proofs.line.Line.keep.Goals as goal

pub returns-then-self-lt-LINE_ROOM : goal.returns-then-self-lt-LINE_ROOM
returns-then-self-lt-LINE_ROOM c =
    held_line _ _ _ (kept_byte _ _ _ c.self.invariant c.args.byte c.if-self-lt-LINE_ROOM.true)
    ∙ ap (λ (line : List ℕ). kept line c.args.byte) c.self.view_is

pub returns-else-self-lt-LINE_ROOM : goal.returns-else-self-lt-LINE_ROOM
returns-else-self-lt-LINE_ROOM c =
    sym (rw c.self.view_is at (not_kept _ _ _ c.self.invariant c.args.byte c.if-self-lt-LINE_ROOM.false))
