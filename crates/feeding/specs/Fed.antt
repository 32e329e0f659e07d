-- Input fed in pieces to a lent store, an unfinished line and a lent text buffer: each byte of the three, and each number that is
-- answered, is an equation. Assumes nothing.
use Rattle.std.specs.Prelude.{ℕ, ◌≡◌, Bool, ◌&&◌, List, eqb, leb, length, get_or}
use Rattle.little.specs.Little.{written}
use Rattle.frame_text.specs.Frames.{frame_length}
use Rattle.frame_text.specs.Answers.{line_feed}
use Rattle.frame_text.specs.Program.{LineOutcome}
use Rattle.frame_text.specs.Feeding.{Unfinished, line_room, after_bytes, printed_by}

-- a store and an unfinished line
abbrev pub held : List ℕ → List ℕ → Unfinished
held store line = record { store = store; line = line }

-- an outcome's store is in the lent one, and its text in front of a text buffer, whose other bytes stay
pub record Answered (o : LineOutcome) (out : List ℕ) (wrote : ℕ) (store' out' : List ℕ) : Type 0 where
  pub made : store' ≡ o.store
  pub text : out' ≡ written 0 o.text out
  pub count : wrote ≡ length o.text

-- a state was reached that printed a text on its way
pub record Reached (u : Unfinished) (text out : List ℕ) (wrote : ℕ) (store' line' out' : List ℕ) : Type 0 where
  pub answered : Answered (record { text = text; store = u.store }) out wrote store' out'
  pub line : line' ≡ u.line

-- some bytes were fed
abbrev pub FedBy : Unfinished → List ℕ → List ℕ → ℕ → List ℕ → List ℕ → List ℕ → Type 0
FedBy u bytes out wrote store' line' out' = Reached (after_bytes u bytes) (printed_by u bytes) out wrote store' line' out'

-- a line of a frame's length lies whole in front of some bytes, and no line was begun before it
unfoldable pub lies_whole : List ℕ → List ℕ → Bool
lies_whole line bytes = eqb (length line) 0 && (leb line_room (length bytes) && eqb (get_or bytes frame_length 0) line_feed)
