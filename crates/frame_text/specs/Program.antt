-- The whole program: what it prints for an input. Paper 01, "Hexadecimal frames". Assumes nothing.
use Rattle.std.specs.Prelude.{ℕ, cond, List, [], ◌∷◌, ◌++◌, eqb, Option, Some, None}
use Rattle.model.specs.Store.{Request, StoreOutcome, fresh, on_store}
use Rattle.numbering.specs.declared.Frame.{Frame}
use Rattle.numbering.specs.Numbers.{request_of}
use Rattle.frame_text.specs.Frames.{frame_of}
use Rattle.frame_text.specs.Answers.{line_feed, answer_text, bad_text}

-- a byte before the first line
unfoldable pub before : ℕ → List (List ℕ) → List (List ℕ)
before b [] = (b ∷ []) ∷ []
before b (line ∷ rest) = (b ∷ line) ∷ rest

-- "A line ends at a line feed; bytes after the last one are a line too, if there are any."
unfoldable pub lines : List ℕ → List (List ℕ)
lines [] = []
lines (b ∷ bs) = cond (eqb b line_feed) ([] ∷ lines bs) (before b (lines bs))

-- what a line prints on a store, and the store after it
pub record LineOutcome : Type 0 where
  pub text : List ℕ
  pub store : List ℕ

abbrev printed : StoreOutcome → LineOutcome
printed o = record { text = answer_text o.answer; store = o.store }

-- a frame makes its call; a line that is none prints `ff` and leaves the store
unfoldable pub on_frame : List ℕ → Option Frame → LineOutcome
on_frame store (Some f) = printed (on_store store (record { stream = f.stream; made = f.call }))
on_frame store None = record { text = bad_text; store = store }

unfoldable pub on_line : List ℕ → List ℕ → LineOutcome
on_line store line = on_frame store (frame_of line)

-- each line is given the store that the one before left
unfoldable pub output_from : List ℕ → List (List ℕ) → List ℕ
output_from store [] = []
output_from store (line ∷ rest) = (on_line store line).text ++ output_from (on_line store line).store rest

-- "The program reads standard input over a fresh store."
unfoldable pub output : List ℕ → List ℕ
output input = output_from fresh (lines input)

-- the calls of the lines that are frames, and the store after all lines
unfoldable pub requests_in : List (List ℕ) → List Request
requests_in [] = []
requests_in (line ∷ rest) = request_of (frame_of line) ++ requests_in rest

unfoldable pub store_from : List ℕ → List (List ℕ) → List ℕ
store_from store [] = store
store_from store (line ∷ rest) = store_from (on_line store line).store rest
