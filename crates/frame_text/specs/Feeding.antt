-- The program fed in pieces, byte after byte: its state between two bytes, and what it has printed. Assumes nothing.
use Rattle.std.specs.Prelude.{ℕ, ◌+◌, cond, List, [], ◌∷◌, ◌++◌, eqb, leb, length}
use Rattle.model.specs.Store.{fresh}
use Rattle.frame_text.specs.Frames.{frame_length}
use Rattle.frame_text.specs.Answers.{line_feed}
use Rattle.frame_text.specs.Program.{LineOutcome, on_line}

-- the store, and the bytes of a line that has not ended
pub record Unfinished : Type 0 where
  pub store : List ℕ
  pub line : List ℕ

unfoldable pub begun : Unfinished
begun = record { store = fresh; line = [] }

-- what is kept of a line at the most, which is one byte more than a frame has
abbrev pub line_room : ℕ
line_room = frame_length + 1

-- a line with more bytes than a frame is bad however it goes on: no more of it is kept
unfoldable pub kept : List ℕ → ℕ → List ℕ
kept line b = cond (leb (length line) frame_length) (line ++ (b ∷ [])) line

-- a line feed makes the line's call; any other byte goes on with the line
unfoldable pub after_byte : Unfinished → ℕ → Unfinished
after_byte u b =
    cond (eqb b line_feed)
    (record { store = (on_line u.store u.line).store; line = [] })
    (record { store = u.store; line = kept u.line b })

unfoldable pub printed_at : Unfinished → ℕ → List ℕ
printed_at u b = cond (eqb b line_feed) (on_line u.store u.line).text []

-- the state after some bytes, and what they print
unfoldable pub after_bytes : Unfinished → List ℕ → Unfinished
after_bytes u [] = u
after_bytes u (b ∷ bs) = after_bytes (after_byte u b) bs

unfoldable pub printed_by : Unfinished → List ℕ → List ℕ
printed_by u [] = []
printed_by u (b ∷ bs) = printed_at u b ++ printed_by (after_byte u b) bs

-- the end of the input ends a line, if there are bytes of one
unfoldable pub last_line : List ℕ → List ℕ → LineOutcome
last_line store [] = record { text = []; store = store }
last_line store (b ∷ bs) = on_line store (b ∷ bs)

unfoldable pub at_end : Unfinished → LineOutcome
at_end u = last_line u.store u.line
