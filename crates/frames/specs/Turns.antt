-- The program's turns: what each does with what a read answered, and what the program leaves. Assumes nothing.
use Rattle.std.specs.Prelude.{ℕ, zero, suc, ◌*◌, ◌≤◌, ◌≡◌, Bool, true, false, List, [], length, take, Result, Ok, Err}
use Rattle.model.specs.Store.{fresh}
use Rattle.frame_text.specs.Answers.{text_length}
use Rattle.frame_text.specs.Program.{lines, store_from}
use Rattle.frame_text.specs.Feeding.{Unfinished, begun, after_bytes, printed_by, at_end}
use Rattle.feeding.specs.Fed.{Reached}
use Rattle.frames.specs.declared.Turn.{Turn}
use Rattle.frames.specs.declared.Turn.TheVariants.{More, Last}
use Rattle.frames.specs.declared.Failure.{Failure}
use Rattle.frames.specs.declared.Failure.TheVariants.{Input, Output, LastOutput}

-- what a read into n bytes may answer: that it failed, or how many bytes it moved, at most n
abbrev pub Moved : ℕ → Result ℕ Failure → Type 0
Moved n (Ok k) = k ≤ n
Moved n (Err e) = e ≡ Input

-- the text buffer that the program lends has room for the text of a whole piece, and for that of the last line
pub record Lent (piece out : List ℕ) : Type 0 where
  pub piece_room : text_length * length piece ≤ length out
  pub last_room : text_length ≤ length out

-- what a turn comes to: the state after it, the text to print, and its answer, given how many bytes of text there are
pub record TurnOutcome : Type 0 where
  pub state : Unfinished
  pub text : List ℕ
  pub turn : Result Turn Failure

-- by what the read answered: 0 at the end of the input, whose last line is answered; how many bytes of input stand in front of the
-- piece, which are fed; or that it failed, where nothing is done
unfoldable pub on_read : Unfinished → List ℕ → Result ℕ Failure → TurnOutcome
on_read u piece (Ok zero) =
    record { state = record { store = (at_end u).store; line = u.line }; text = (at_end u).text; turn = Ok (Last (length (at_end u).text)) }
on_read u piece (Ok (suc k)) =
    let bytes = take (suc k) piece in
    record { state = after_bytes u bytes; text = printed_by u bytes; turn = Ok (More (length (printed_by u bytes))) }
on_read u piece (Err e) = record { state = u; text = []; turn = Err e }

-- a turn came to an outcome: its state lies in the lent store and the line, and its text in front of the text buffer
pub record TurnTaken (o : TurnOutcome) (out : List ℕ) (r : Result Turn Failure) (store' line' out' : List ℕ) : Type 0 where
  pub reached : Reached o.state o.text out (length o.text) store' line' out'
  pub turn : r ≡ o.turn

-- whether the input came to its end, by how the program ended
abbrev pub came_to_end : Result (Unit {0}) Failure → Bool
came_to_end (Ok _) = true
came_to_end (Err Input) = false
came_to_end (Err Output) = false
came_to_end (Err LastOutput) = true

-- the store after an input that came to its end, or after as much of one as came
unfoldable pub store_after_input : Bool → List ℕ → List ℕ
store_after_input true input = store_from fresh (lines input)
store_after_input false input = (after_bytes begun input).store

-- some input came, its calls were made, and its unfinished line is in the line buffer
abbrev pub Ran : Result (Unit {0}) Failure → List ℕ → List ℕ → Type 0
Ran r store' line' =
    (input : List ℕ)
    × (store' ≡ store_after_input (came_to_end r) input)
    × (line' ≡ (after_bytes begun input).line)
