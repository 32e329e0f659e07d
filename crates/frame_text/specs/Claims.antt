-- What is claimed of the definitions, and proved in proofs/. Assumes nothing.
use Rattle.std.specs.Prelude.{ℕ, ◌≤◌, ◌<◌, ◌^◌, ◌≡◌, List, ◌++◌, T, length, Some}
use Rattle.model.specs.Stations.{arguments, all_words}
use Rattle.model.specs.Store.{fresh, store_after}
use Rattle.model.specs.Claims.{are_words}
use Rattle.numbering.specs.declared.Frame.{Frame}
use Rattle.frame_text.specs.Digits.{hex_value, digits_of}
use Rattle.frame_text.specs.Frames.{frame_of}
use Rattle.frame_text.specs.Program.{lines, output, requests_in, store_from}
use Rattle.frame_text.specs.Feeding.{Unfinished, begun, line_room, after_bytes, printed_by, at_end}

-- a number is read as it is written
abbrev pub ReadAsWritten : Type 0
ReadAsWritten = (k n : ℕ) → n < 16 ^ k → hex_value (digits_of k n) ≡ n

-- a frame's stream is a byte, and its call's arguments are 32-bit numbers
pub record SmallNumbers (f : Frame) : Type 0 where
  pub byte_stream : f.stream < 256
  pub words : T (all_words (arguments f.call))

abbrev pub FramesAreSmall : Type 0
FramesAreSmall = (line : List ℕ) (f : Frame) → frame_of line ≡ Some f → SmallNumbers f

-- the lines make a list of calls as demand 3 has it: with 32-bit arguments, each on the store that the one before left
pub record MakesCalls (store : List ℕ) (ls : List (List ℕ)) : Type 0 where
  pub words : T (are_words (requests_in ls))
  pub same_store : store_from store ls ≡ store_after store (requests_in ls)

-- the input may be fed in pieces, cut anywhere: each piece prints its own text and leaves a state, whose line is never longer than its
-- room; the whole is the program's output, and leaves the store that the lines leave
pub record FedInPieces : Type 0 where
  pub whole : (input : List ℕ) → printed_by begun input ++ (at_end (after_bytes begun input)).text ≡ output input
  pub whole_store : (input : List ℕ) → (at_end (after_bytes begun input)).store ≡ store_from fresh (lines input)
  pub cut_state : (u : Unfinished) (xs ys : List ℕ) → after_bytes u (xs ++ ys) ≡ after_bytes (after_bytes u xs) ys
  pub cut_text : (u : Unfinished) (xs ys : List ℕ)
      → printed_by u (xs ++ ys) ≡ printed_by u xs ++ printed_by (after_bytes u xs) ys
  pub short_line : (u : Unfinished) (bytes : List ℕ) → length u.line ≤ line_room
      → length (after_bytes u bytes).line ≤ line_room
