-- What is claimed of the definitions, and proved in proofs/. Assumes nothing.
use Rattle.std.specs.Prelude.{ℕ, ◌+◌, ◌*◌, ◌<◌, ◌≤◌, ◌≡◌, ◌⊎◌, Bool, true, false, cond, not, ◌&&◌, List, [], ◌∷◌, ◌++◌, T, eqb, length, get_or, take}
use Rattle.little.specs.Little.{value, part}
use Rattle.model.specs.declared.Plan.{Plan}
use Rattle.model.specs.declared.Entry.{Entry}
use Rattle.model.specs.declared.Call.{Call}
use Rattle.model.specs.declared.Call.TheVariants.{Open, Enter, Back, Ask, Read, Newest}
use Rattle.model.specs.declared.Answer.{Answer}
use Rattle.model.specs.declared.Recording.{Recording}
use Rattle.model.specs.Sizes.{record_length, header_length, most_records, area_length, streams, start_of}
use Rattle.model.specs.Stations.{
  Station,
  unopened,
  opened,
  is_credit,
  is_level,
  is_continuous,
  arguments,
  all_words,
}
use Rattle.model.specs.Records.{no_recording, record_in}
use Rattle.model.specs.Calls.{refusal_of, refused, brings_recording, brought_by, call}
use Rattle.model.specs.Area.{zeros, records_of, area_of, reading, holds, on_area}
use Rattle.model.specs.Store.{Request, fresh, area_at, on_store, store_after, answers_to, newest_part, newest_records}
use Rattle.model.specs.Backward.{credit_back, window_back, count_back, phase_back, tail_back}

-- Soundness. "An area is sound when it is all zero, or when some list of accepted calls below, begun on an all-zero one, leaves
-- exactly it."

unfoldable pub station_after : Station → List Call → Station
station_after st [] = st
station_after st (c ∷ cs) = station_after (call st c).station cs

-- each call of a list, with 32-bit arguments, is accepted
unfoldable pub all_accepted : Station → List Call → Bool
all_accepted st [] = true
all_accepted st (c ∷ cs) =
    eqb (refusal_of st c) 0 && all_words (arguments c) && all_accepted (call st c).station cs

unfoldable pub Sound : List ℕ → Type 0
Sound area =
    (area ≡ zeros area_length)
    ⊎ ((cs : List Call) × T (all_accepted unopened cs) × (area_of (station_after unopened cs) ≡ area))

-- the same over an area's bytes: the area after a list of calls on it, and whether each was accepted
unfoldable pub area_after : List ℕ → List Call → List ℕ
area_after area [] = area
area_after area (c ∷ cs) = area_after (on_area area c).area cs

unfoldable pub all_taken_on : List ℕ → List Call → Bool
all_taken_on area [] = true
all_taken_on area (c ∷ cs) =
    eqb (on_area area c).answer.refusal 0 && all_words (arguments c) && all_taken_on (on_area area c).area cs

-- the reading decides soundness, and gives the one station that calls can have left there; calls on the bytes of an all-zero area
-- are accepted exactly where those on an unopened station are, and leave its bytes
pub record DecidesSoundness (area : List ℕ) : Type 0 where
  pub of_sound : Sound area → (st : Station) × (reading area ≡ holds st)
  pub sound_of : (st : Station) → reading area ≡ holds st → Sound area
  pub only_one : (cs : List Call) → T (all_accepted unopened cs) → area_of (station_after unopened cs) ≡ area
      → reading area ≡ holds (station_after unopened cs)
  pub over_bytes : (cs : List Call) → all_taken_on (zeros area_length) cs ≡ all_accepted unopened cs
  pub left_bytes : (cs : List Call) → T (all_accepted unopened cs)
      → area_after (zeros area_length) cs ≡ area_of (station_after unopened cs)

-- a call on a stream
abbrev pub on : ℕ → Call → Request
on stream c = record { stream = stream; made = c }

-- "The store": a call writes only inside its own stream's area and reads no other: another store of the same length with the same area
-- there gives the same answer and the same area after. "Calls": a refusal gives three zeros and changes nothing
pub record KeepsToItsArea (store : List ℕ) (r : Request) : Type 0 where
  pub refusal : ((on_store store r).answer.refusal ≡ 0 → ⊥)
      → on_store store r ≡ record { answer = refused (on_store store r).answer.refusal; store = store }
  pub same_length : length (on_store store r).store ≡ length store
  pub elsewhere : (i : ℕ) → (i < start_of r.stream) ⊎ (start_of r.stream + area_length ≤ i)
      → get_or (on_store store r).store i 0 ≡ get_or store i 0
  pub reads_no_other : (other : List ℕ) → length other ≡ length store → area_at r.stream other ≡ area_at r.stream store
      → ((on_store other r).answer ≡ (on_store store r).answer)
      × (area_at r.stream (on_store other r).store ≡ area_at r.stream (on_store store r).store)

-- Paper 02, card 1: the part that is handed back is "of the area itself": behind the header of the stream's own area and inside it; another
-- store of the same length with the same area there hands back the same bytes. It has as many records as the call answers, none where it
-- is refused, and lies in the store, whatever the store's length
pub record PartOfItsArea (store : List ℕ) (stream n : ℕ) : Type 0 where
  pub reads_no_other : (other : List ℕ) → length other ≡ length store → area_at stream other ≡ area_at stream store
      → newest_records other stream n ≡ newest_records store stream n
  pub inside : (on_store store (on stream (Newest n))).answer.refusal ≡ 0
      → (start_of stream + header_length ≤ (newest_part store stream n).offset)
      × ((newest_part store stream n).offset + (newest_part store stream n).length ≤ start_of stream + area_length)
  pub whole : (newest_part store stream n).length ≡ record_length * (on_store store (on stream (Newest n))).answer.first
  pub fits : (newest_part store stream n).offset + (newest_part store stream n).length ≤ length store

-- The figures in an area are those worked out backwards from the standing entries; figures foreign to the plan are zero
pub record FiguresBackward (p : Plan) (es : List Entry) (area : List ℕ) : Type 0 where
  pub credit : value (part 16 4 area) ≡ cond (is_credit p) (credit_back es) 0
  pub window : get_or area 23 0 ≡ cond (is_level p) (window_back es) 0
  pub count : value (part 24 4 area) ≡ cond (is_continuous p) (count_back p.a es) 0
  pub phase : get_or area 28 0 ≡ cond (is_continuous p) (phase_back p.a es) 0
  pub tail : value (part 30 2 area) ≡ cond (is_continuous p) (tail_back p.a p.b es) 0
  pub no_level : is_level p ≡ false → part 20 4 area ≡ zeros 4

unfoldable pub StationBackward : Station → List ℕ → Type 0
StationBackward unopened area = area ≡ zeros area_length
StationBackward (opened p es) area = FiguresBackward p es area

-- Paper 02, card 1: "a recording is found exactly where a lot, run or block stands". Places are counted from 0, oldest first

-- a lot, run or block stands at a place
unfoldable pub recorded_at : List Entry → ℕ → Bool
recorded_at [] i = false
recorded_at (e ∷ es) i = cond (eqb i (length es)) (brings_recording e) (recorded_at es i)

unfoldable pub recorded_in : Station → ℕ → Bool
recorded_in unopened i = false
recorded_in (opened p es) i = recorded_at es i

-- the recording of the entry that stands at a place; zeros where it is a stop, and where none stands
unfoldable pub brought_at : List Entry → ℕ → Recording
brought_at [] i = no_recording
brought_at (e ∷ es) i = cond (eqb i (length es)) (brought_by e) (brought_at es i)

unfoldable pub brought_in : Station → ℕ → Recording
brought_in unopened i = no_recording
brought_in (opened p es) i = brought_at es i

-- the recording in the bytes at a place of an area
unfoldable pub recording_at : List ℕ → ℕ → Recording
recording_at area i = (record_in (part (header_length + record_length * i) record_length area)).recording

-- the recordings in an area are those of a station's entries, each at its place: so a taken-back entry's recording goes with it
pub record RecordingsStand (st : Station) (area : List ℕ) (i : ℕ) : Type 0 where
  pub own : recording_at area i ≡ brought_in st i
  pub found : not (eqb (recording_at area i).number 0) ≡ recorded_in st i

-- Demand 3. "A stream's standing list is read off the calls on that stream, their arguments and refusal numbers."

-- a call that was made, and the refusal number that it got
pub record PastCall : Type 0 where
  pub request : Request
  pub refusal : ℕ

unfoldable pub history : List ℕ → List Request → List PastCall
history store [] = []
history store (r ∷ rs) =
    record { request = r; refusal = (on_store store r).answer.refusal } ∷ history (on_store store r).store rs

-- "The list is empty before Open and when opened; an accepted Lot, Run, Block or Stop is appended with all its arguments; an
-- accepted take-back removes the newest; refused calls, asks and reads leave it." So does a call for the newest records
unfoldable pub after_accepted : Call → Station → Station
after_accepted (Open q) st = opened q []
after_accepted (Enter e) unopened = unopened
after_accepted (Enter e) (opened p es) = opened p (e ∷ es)
after_accepted Back unopened = unopened
after_accepted Back (opened p []) = opened p []
after_accepted Back (opened p (e ∷ es)) = opened p es
after_accepted (Ask N) st = st
after_accepted Read st = st
after_accepted (Newest n) st = st

unfoldable pub after_past_call : ℕ → PastCall → Station → Station
after_past_call stream past st =
    cond (eqb past.request.stream stream && eqb past.refusal 0) (after_accepted past.request.made st) st

-- the stream's accepted Open and its standing entries, after what was made, oldest first
unfoldable pub standing : ℕ → Station → List PastCall → Station
standing stream st [] = st
standing stream st (past ∷ later) = standing stream (after_past_call stream past st) later

-- "The other store": the accepted Open, if the stream was opened, then the standing entries, oldest first, each by the call and with
-- the arguments that entered it

unfoldable pub reentered : ℕ → List Entry → List Request
reentered stream [] = []
reentered stream (e ∷ es) = reentered stream es ++ (on stream (Enter e) ∷ [])

unfoldable pub remade : ℕ → Station → List Request
remade stream unopened = []
remade stream (opened p es) = on stream (Open p) ∷ reentered stream es

unfoldable pub AllTaken : List Answer → Type 0
AllTaken [] = Unit {0}
AllTaken (a ∷ rest) = (a.refusal ≡ 0) × AllTaken rest

unfoldable pub on_all : ℕ → List Call → List Request
on_all stream [] = []
on_all stream (c ∷ cs) = on stream c ∷ on_all stream cs

unfoldable pub are_words : List Request → Bool
are_words [] = true
are_words (r ∷ rs) = all_words (arguments r.made) && are_words rs

-- the other store for a stream, made of its standing list alone
unfoldable pub there : ℕ → Station → List ℕ
there stream st = store_after fresh (remade stream st)

-- the bytes of so many of a station's newest records, as they lie in its area
unfoldable pub newest_bytes : ℕ → Station → List ℕ
newest_bytes n unopened = []
newest_bytes n (opened p es) = records_of (take n es)

-- what the calls made from a fresh store, with the refusal numbers that they got, and the store that they left are to be for a stream:
-- the whole area is equal in both stores; each call made on the other store is accepted; whatever calls on the stream follow, each
-- gives the same whole answer on both, and the newest records that are then handed back, however many, are the same bytes on both; they are
-- those of the newest standing entries; the recordings are found where their entries stand; and the figures stored are those worked out
-- backwards from the standing entries. The area is the one that the rules give for the standing entries, and the next call answers by the
-- rules: a store never written is no way out
pub record DemandThree (past : List PastCall) (left : List ℕ) (stream : ℕ) : Type 0 where
  pub same_area : area_at stream left ≡ area_at stream (there stream (standing stream unopened past))
  pub taken : AllTaken (answers_to fresh (remade stream (standing stream unopened past)))
  pub answers_alike : (more : List Call)
      → answers_to left (on_all stream more) ≡ answers_to (there stream (standing stream unopened past)) (on_all stream more)
  pub newest_alike : (more : List Call) (n : ℕ)
      → newest_records (store_after left (on_all stream more)) stream n
      ≡ newest_records (store_after (there stream (standing stream unopened past)) (on_all stream more)) stream n
  pub newest_stand : (n : ℕ) → newest_records left stream n ≡ newest_bytes n (standing stream unopened past)
  pub recordings : (i : ℕ) → i < most_records → RecordingsStand (standing stream unopened past) (area_at stream left) i
  pub backwards : StationBackward (standing stream unopened past) (area_at stream left)
  pub stands_there : area_at stream left ≡ area_of (standing stream unopened past)
  pub by_the_rules : (c : Call) → (on_store left (on stream c)).answer ≡ (call (standing stream unopened past) c).answer

-- for every list of calls with 32-bit arguments, and every stream
abbrev pub EveryList : Type 0
EveryList = (calls : List Request) → T (are_words calls) → (stream : ℕ) → stream < streams
    → DemandThree (history fresh calls) (store_after fresh calls) stream
