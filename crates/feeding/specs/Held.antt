-- The buffer of an unfinished line. Assumes nothing.
use Rattle.std.specs.Prelude.{ℕ, ◌-◌, ◌≤◌, ◌≡◌, List, ◌++◌, length}
use Rattle.model.specs.Area.{zeros}
use Rattle.frame_text.specs.Feeding.{line_room}

-- a line buffer has an unfinished line in its first `have` bytes and zeros behind: no byte of an earlier line stays
pub record LineHeld (buffer : List ℕ) (have : ℕ) (line : List ℕ) : Type 0 where
  pub whole : buffer ≡ line ++ zeros (line_room - have)
  pub count : have ≡ length line
  pub short : have ≤ line_room
