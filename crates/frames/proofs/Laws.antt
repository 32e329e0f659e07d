-- What a turn comes to, by what the read answered, and what all turns together leave. Assumes nothing.
use mathlib.Core.Path.{◌≡◌, refl, sym, ap, ◌∙◌}
use mathlib.Core.Bool.{true, false}
use mathlib.Core.List.{List, [], ◌++◌}
use Prim.Native.Nat.{ℕ, zero, suc, ◌≤◌, ◌<◌}
use lib.ListN.{take, length}
use native.Mathlib.Omega.{arith}
use Rattle.std.specs.Result.{IsErrAnd}
use Rattle.std.specs.Prelude.{Result, Ok, Err, IfErr}
use Rattle.model.specs.Store.{fresh}
use Rattle.frame_text.specs.Feeding.{Unfinished, begun, after_bytes, printed_by}
use Rattle.frame_text.proofs.Feeding.{fed_in_pieces}
use Rattle.feeding.specs.Fed.{held}
use Rattle.feeding.proofs.Laws.{nothing_printed, text_inside}
use Rattle.frames.specs.declared.Turn.{Turn}
use Rattle.frames.specs.declared.Turn.TheVariants.{More, Last}
use Rattle.frames.specs.declared.Failure.{Failure}
use Rattle.frames.specs.declared.Failure.TheVariants.{Input, LastOutput}
use Rattle.frames.specs.Turns.{Moved, on_read, TurnTaken, came_to_end, store_after_input, Ran}

-- ---- a turn

pub read_failed : (store line piece out : List ℕ) (got : Result ℕ Failure) (e : Failure) (r : Result Turn Failure)
    → got ≡ Err e → IsErrAnd r (λ y. y ≡ e) → TurnTaken (on_read (held store line) piece got) out r store line out
unfolding on_read
read_failed store line piece out got e (Ok t) failed same = absurd same
read_failed store line piece out got e (Err y) failed same =
    rw failed (record { reached = record { answered = nothing_printed store out; line = refl }; turn = ap Err same })

module _ (u : Unfinished) (piece : List ℕ) where
  pub some_came : (k : ℕ) → 0 < k → on_read u piece (Ok k) ≡ record { state = after_bytes u (take k piece); text = printed_by u (take k piece); turn = Ok (More (length (printed_by u (take k piece)))) }
  unfolding on_read
  some_came zero some = absurd (let never : ⊥ = omega (arith, some) in never)
  some_came (suc k) some = refl

  -- the end of the input: nothing came, and the read did not fail
  pub input_ended : (k : ℕ) → (0 < k → ⊥) → on_read u piece (Ok k) ≡ on_read u piece (Ok 0)
  input_ended zero none = refl
  input_ended (suc k) none = absurd (none (omega arith))

-- how many bytes of text there are
abbrev pub wrote_in : Result Turn Failure → ℕ
wrote_in (Ok (More n)) = n
wrote_in (Ok (Last n)) = n
wrote_in (Err e) = 0

-- the text that a turn prints lies inside its buffer
pub turn_fits : (u : Unfinished) (piece out : List ℕ) (got : Result ℕ Failure) (r : Result Turn Failure) (store' line' out' : List ℕ)
    → TurnTaken (on_read u piece got) out r store' line' out' → wrote_in r ≤ length out'
unfolding on_read
turn_fits u piece out (Ok zero) r store' line' out' taken = rw taken.turn (text_inside _ _ _ _ _ taken.reached.answered)
turn_fits u piece out (Ok (suc k)) r store' line' out' taken = rw taken.turn (text_inside _ _ _ _ _ taken.reached.answered)
turn_fits u piece out (Err e) r store' line' out' taken = rw taken.turn (omega arith)

-- ---- all turns

-- some input came so far, of which the calls are made and the unfinished line is held
abbrev pub Progress : List ℕ → List ℕ → Type 0
Progress store line = (input : List ℕ) × (store ≡ (after_bytes begun input).store) × (line ≡ (after_bytes begun input).line)

pub no_turn : (store line : List ℕ) → store ≡ fresh → line ≡ [] → Progress store line
unfolding after_bytes begun
no_turn store line empty none = ([], empty, none)

pub stopped : (store line : List ℕ) → Progress store line → (ended : Result (Unit {0}) Failure) → came_to_end ended ≡ false → Ran ended store line
unfolding store_after_input
stopped store line so ended part = rw part so

-- a text that could not be printed is the last, or is not
pub last_ends : (ended : Result (Unit {0}) Failure) → IfErr ended (λ e. e ≡ LastOutput) → came_to_end ended ≡ true
last_ends (Ok x) failed = refl
last_ends (Err e) failed = rw failed refl

-- why a turn failed
reason : Result Turn Failure → Failure
reason (Ok t) = Input
reason (Err e) = e

-- the kinds of a turn's answer
kind : Result Turn Failure → ℕ
kind (Ok (More n)) = 0
kind (Ok (Last n)) = 1
kind (Err e) = 2

-- what a turn leaves, by its answer
module _ (piece out : List ℕ) (r : Result Turn Failure) (store' line' out' : List ℕ) where
  -- where more may come, some more has come
  pub turn_more : (store line : List ℕ) (got : Result ℕ Failure) (n : ℕ) → Progress store line
      → TurnTaken (on_read (held store line) piece got) out r store' line' out' → r ≡ Ok (More n) → Progress store' line'
  unfolding on_read kind
  turn_more store line got n so taken is = go got (rw (so.1, so.2) at taken)
    where
      go : (got : Result ℕ Failure) → TurnTaken (on_read (after_bytes begun so.0) piece got) out r store' line' out' → Progress store' line'
      go (Ok zero) taken = absurd (let never : ⊥ = omega (arith, ap kind is, ap kind taken.turn) in never)
      go (Ok (suc k)) taken =
          let cut = fed_in_pieces.cut_state begun so.0 (take (suc k) piece) in
          (so.0 ++ take (suc k) piece, rw cut taken.reached.answered.made, rw cut taken.reached.line)
      go (Err e) taken = absurd (let never : ⊥ = omega (arith, ap kind is, ap kind taken.turn) in never)

  -- where it was the last, the whole input has come
  pub turn_last : (store line : List ℕ) (got : Result ℕ Failure) (n : ℕ) → Progress store line
      → TurnTaken (on_read (held store line) piece got) out r store' line' out' → r ≡ Ok (Last n)
      → (ended : Result (Unit {0}) Failure) → came_to_end ended ≡ true → Ran ended store' line'
  unfolding on_read kind store_after_input
  turn_last store line got n so taken is ended whole = rw whole (go got (rw (so.1, so.2) at taken))
    where
      go : (got : Result ℕ Failure) → TurnTaken (on_read (after_bytes begun so.0) piece got) out r store' line' out'
          → (input : List ℕ) × (store' ≡ store_after_input true input) × (line' ≡ (after_bytes begun input).line)
      go (Ok zero) taken = (so.0, taken.reached.answered.made ∙ fed_in_pieces.whole_store so.0, taken.reached.line)
      go (Ok (suc k)) taken = absurd (let never : ⊥ = omega (arith, ap kind is, ap kind taken.turn) in never)
      go (Err e) taken = absurd (let never : ⊥ = omega (arith, ap kind is, ap kind taken.turn) in never)

  -- where the read failed, nothing was done
  pub turn_failed : (store line : List ℕ) (got : Result ℕ Failure) (e : Failure) → Progress store line
      → Moved (length piece) got
      → TurnTaken (on_read (held store line) piece got) out r store' line' out' → r ≡ Err e
      → (ended : Result (Unit {0}) Failure) → ended ≡ Err e → Ran ended store' line'
  unfolding on_read kind reason
  turn_failed store line got e so moved taken is ended same = go got moved taken
    where
      go : (got : Result ℕ Failure) → Moved (length piece) got → TurnTaken (on_read (held store line) piece got) out r store' line' out' → Ran ended store' line'
      go (Ok zero) moved taken = absurd (let never : ⊥ = omega (arith, ap kind is, ap kind taken.turn) in never)
      go (Ok (suc k)) moved taken = absurd (let never : ⊥ = omega (arith, ap kind is, ap kind taken.turn) in never)
      go (Err d) moved taken =
          let input : e ≡ Input = sym (ap reason is) ∙ ap reason taken.turn ∙ moved in
          let before : Progress store' line' = rw (taken.reached.answered.made, taken.reached.line) so in
          stopped store' line' before ended (rw (same, input) refl)
