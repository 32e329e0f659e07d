-- Which number is which call: paper 01, "Hexadecimal frames". "call (1 Open to 8 Read, in the order above), stream, five 32-bit
-- arguments, big end first, unused ones 0"; and paper 02, card 1: "call frames gain two arguments at the end, number then second", and the
-- call that hands back the newest records is 9. The text is not looked at here. Assumes nothing.
use Rattle.std.specs.Prelude.{ℕ, zero, suc, Bool, true, false, cond, ◌&&◌, ◌||◌, List, [], ◌∷◌, eqb, leb, get_or, Option, Some, None}
use Rattle.model.specs.declared.Recording.{Recording}
use Rattle.model.specs.declared.Entry.TheVariants.{Lot, Run, Block, Stop}
use Rattle.model.specs.declared.Call.{Call}
use Rattle.model.specs.declared.Call.TheVariants.{Open, Enter, Back, Ask, Read, Newest}
use Rattle.model.specs.Stations.{plan_of}
use Rattle.model.specs.Store.{Request}
use Rattle.numbering.specs.declared.Frame.{Frame}

abbrev pub frame_arguments : ℕ
frame_arguments = 7

-- the argument in a slot, counted from 1
abbrev pub slot : ℕ → List ℕ → ℕ
slot zero s = 0
slot (suc k) s = get_or s k 0

-- a recording has the same two slots in every call that brings one, so that a run's arguments are h, w, three zeros, number, second
abbrev pub recording_of : List ℕ → Recording
recording_of s = record { number = slot 6 s; second = slot 7 s }

-- whether a slot is one of those two
unfoldable pub is_recording_slot : ℕ → Bool
is_recording_slot k = eqb k 6 || eqb k 7

-- whether a call uses a slot: Open five (paper 02, card 3), Lot five, Run, Block and Stop two, Ask and Newest one, Back and Read none; and
-- the recording's two where the call brings one, which a stop does not
unfoldable pub uses : ℕ → ℕ → Bool
uses number k =
    cond (eqb number 1) (leb k 5)
    (cond (eqb number 2) (leb k 5 || is_recording_slot k)
    (cond (eqb number 3) (leb k 2 || is_recording_slot k)
    (cond (eqb number 4) (leb k 2 || is_recording_slot k)
    (cond (eqb number 5) (leb k 2)
    (cond (eqb number 7) (leb k 1)
    (cond (eqb number 9) (leb k 1)
    false))))))

-- each of the first slots that the call does not use holds 0
unfoldable pub unused_zero : ℕ → List ℕ → ℕ → Bool
unused_zero number s zero = true
unused_zero number s (suc k) = unused_zero number s k && (uses number (suc k) || eqb (slot (suc k) s) 0)

-- a call made on a stream
abbrev pub made : ℕ → Call → Option Frame
made stream c = Some (record { stream = stream; call = c })

-- the calls by number, with their arguments in the order of "Calls"
unfoldable pub numbered : ℕ → ℕ → List ℕ → Option Frame
numbered number stream s =
    cond (unused_zero number s frame_arguments)
    (cond (eqb number 1) (made stream (Open (plan_of (slot 1 s) (slot 2 s) (slot 3 s) (slot 4 s) (slot 5 s))))
    (cond (eqb number 2) (made stream (Enter (Lot (slot 1 s) (slot 2 s) (slot 3 s) (slot 4 s) (slot 5 s) (recording_of s))))
    (cond (eqb number 3) (made stream (Enter (Run (slot 1 s) (slot 2 s) (recording_of s))))
    (cond (eqb number 4) (made stream (Enter (Block (slot 1 s) (slot 2 s) (recording_of s))))
    (cond (eqb number 5) (made stream (Enter (Stop (slot 1 s) (slot 2 s))))
    (cond (eqb number 6) (made stream Back)
    (cond (eqb number 7) (made stream (Ask (slot 1 s)))
    (cond (eqb number 8) (made stream Read)
    (cond (eqb number 9) (made stream (Newest (slot 1 s)))
    None)))))))))
    None

-- the request of a frame, if it is one
unfoldable pub request_of : Option Frame → List Request
request_of (Some f) = record { stream = f.stream; made = f.call } ∷ []
request_of None = []
