-- A list of calls as numbers: for a call its number as in a frame, its stream and its arguments, unused ones 0; four for an answer.
-- Assumes nothing.
use Rattle.std.specs.Prelude.{ℕ, zero, suc, ◌+◌, ◌*◌, ◌/◌, ◌<◌, ◌≡◌, Bool, true, false, ◌&&◌, List, [], ◌∷◌, ◌++◌, eqb, length, drop, get_or, Option, is_some}
use Rattle.std.specs.List.{list_all, flat_map}
use Rattle.little.specs.Little.{part}
use Rattle.model.specs.declared.Answer.{Answer}
use Rattle.model.specs.Sizes.{streams}
use Rattle.model.specs.Store.{Request, fresh, store_after, answers_to}
use Rattle.model.specs.Claims.{PastCall, DemandThree}
use Rattle.numbering.specs.declared.Frame.{Frame}
use Rattle.numbering.specs.Numbers.{frame_arguments, numbered, request_of}

abbrev pub call_length : ℕ
call_length = 2 + frame_arguments

abbrev pub answer_length : ℕ
answer_length = 4

-- the i-th call of a list of numbers
unfoldable pub frame_at : List ℕ → ℕ → Option Frame
frame_at ns i =
    numbered (get_or ns (call_length * i) 0) (get_or ns (call_length * i + 1) 0) (part (call_length * i + 2) frame_arguments ns)

-- each of the first calls exists, with zeros for the arguments that it does not use
unfoldable pub all_made : List ℕ → ℕ → Bool
all_made ns zero = true
all_made ns (suc i) = all_made ns i && is_some (frame_at ns i)

-- the first calls
unfoldable pub requests_to : List ℕ → ℕ → List Request
requests_to ns zero = []
requests_to ns (suc i) = requests_to ns i ++ request_of (frame_at ns i)

-- the frame of a call by itself
abbrev pub frame_of : List ℕ → Option Frame
frame_of call = frame_at call 0

-- each of the calls exists
abbrev pub exist : List (List ℕ) → Bool
exist calls = list_all (λ call. is_some (frame_of call)) calls

-- their requests
abbrev pub requests_in : List (List ℕ) → List Request
requests_in calls = flat_map (λ call. request_of (frame_of call)) calls

-- answers as numbers, refusal first
unfoldable pub numbers_of : List Answer → List ℕ
numbers_of [] = []
numbers_of (a ∷ rest) = a.refusal ∷ a.first ∷ a.second ∷ a.third ∷ numbers_of rest

unfoldable pub calls_in : List ℕ → ℕ
calls_in ns = length ns / call_length

-- the numbers are whole calls that exist, and there is room for exactly their answers
unfoldable pub is_list : List ℕ → List ℕ → Bool
is_list ns answers =
    eqb (length ns) (call_length * calls_in ns)
    && eqb (length answers) (answer_length * calls_in ns)
    && all_made ns (calls_in ns)

-- calls, each with the refusal number that stands first among the numbers of its answer
unfoldable pub past_in : List ℕ → List Request → List PastCall
past_in answers [] = []
past_in answers (r ∷ rest) = record { request = r; refusal = get_or answers 0 0 } ∷ past_in (drop answer_length answers) rest

-- what a list of calls does: a list that is none is refused without a write; else each call is made, one after the other, and of the
-- answers and the store that it leaves, where it began on a fresh one, demand 3 holds
pub record Listed (store ns answers : List ℕ) (made : Bool) (store_then answers_then : List ℕ) : Type 0 where
  pub taken : made ≡ is_list ns answers
  pub kept : made ≡ false → (store_then ≡ store) × (answers_then ≡ answers)
  pub store_made : made ≡ true → store_then ≡ store_after store (requests_to ns (calls_in ns))
  pub answers_made : made ≡ true → answers_then ≡ numbers_of (answers_to store (requests_to ns (calls_in ns)))
  pub demand_three : made ≡ true → store ≡ fresh → (stream : ℕ) → stream < streams
      → DemandThree (past_in answers_then (requests_to ns (calls_in ns))) store_then stream
