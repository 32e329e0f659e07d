-- Cases worked out by hand from papers 01 and 02, as calls with their answers, on stream 0 of a fresh store (`Gives`) or on an unopened
-- station (`StationGives`): paper 01's frame case, its table of proved cases, the rules that are easily got wrong, and those of cards 1
-- and 3. Document 000's Table 2 gives 50 for the paper's 48, and 25 for its 24. Assumes nothing.
use Rattle.std.specs.Prelude.{ℕ, zero, suc, ◌+◌, ◌-◌, ◌≡◌, List, [], ◌∷◌, ◌++◌, length, set, replicate}
use Rattle.model.specs.declared.Plan.{Plan}
use Rattle.model.specs.declared.Recording.{Recording}
use Rattle.model.specs.declared.Entry.{Entry}
use Rattle.model.specs.declared.Entry.TheVariants.{Lot, Run, Block, Stop}
use Rattle.model.specs.declared.Call.{Call}
use Rattle.model.specs.declared.Call.TheVariants.{Open, Enter, Back, Ask, Read, Newest}
use Rattle.model.specs.declared.Answer.{Answer}
use Rattle.model.specs.Sizes.{area_length}
use Rattle.model.specs.Stations.{Station, unopened, opened, plan_of}
use Rattle.model.specs.Calls.{refusal_of, gives, refused, call}
use Rattle.model.specs.Area.{zeros, records_of}
use Rattle.model.specs.Store.{fresh, area_at, on_store, store_after, answers_to, newest_part, newest_records}
use Rattle.model.specs.Claims.{on, on_all}

infix 80 ◌⇒◌
-- a call, and what it gives
pub record Step : Type 0 where
  pub made : Call
  pub answer : Answer

abbrev pub ◌⇒◌ : Call → Answer → Step
c ⇒ a = record { made = c; answer = a }

unfoldable pub calls_of : List Step → List Call
calls_of [] = []
calls_of (s ∷ steps) = s.made ∷ calls_of steps

unfoldable pub answers_of : List Step → List Answer
answers_of [] = []
answers_of (s ∷ steps) = s.answer ∷ answers_of steps

-- the calls, one after the other on a fresh store, give these answers
abbrev pub Gives : List Step → Type 0
Gives steps = answers_to fresh (on_all 0 (calls_of steps)) ≡ answers_of steps

-- the same on an unopened station
unfoldable pub station_answers : Station → List Call → List Answer
station_answers st [] = []
station_answers st (c ∷ cs) = (call st c).answer ∷ station_answers (call st c).station cs

abbrev pub StationGives : List Step → Type 0
StationGives steps = station_answers unopened (calls_of steps) ≡ answers_of steps

abbrev pub start_under : ℕ → ℕ → ℕ → ℕ → ℕ → Call
start_under ceiling kind option a b = Open (plan_of kind option a b ceiling)

-- without a ceiling
abbrev pub start : ℕ → ℕ → ℕ → ℕ → Call
start = start_under 0

-- "The lots, runs and blocks in 01's cases bring recording 1, second 0": paper 02, card 1
abbrev pub from : ℕ → ℕ → Recording
from number second = record { number = number; second = second }

abbrev pub lot : ℕ → ℕ → ℕ → ℕ → ℕ → Call
lot label N n d D = Enter (Lot label N n d D (from 1 0))

abbrev pub run : ℕ → ℕ → Call
run h w = Enter (Run h w (from 1 0))

abbrev pub block : ℕ → ℕ → Call
block p w = Enter (Block p w (from 1 0))

abbrev pub stop : ℕ → ℕ → Call
stop why days = Enter (Stop why days)

-- "Hexadecimal frames", the whole case
unfoldable pub frame_case : List Step
frame_case =
    start 1 0 15000 0 ⇒ gives 0 0 0
    ∷ lot 1 201 51 0 0 ⇒ gives 1 201 201
    ∷ Ask 192 ⇒ gives 28 0 0
    ∷ Back ⇒ gives 1 0 0
    ∷ []

-- "Table of proved cases"

unfoldable pub credit_case : List Step
credit_case =
    start 1 0 10000 0 ⇒ gives 0 0 0
    ∷ Ask 50 ⇒ gives 34 0 0
    ∷ Ask 9900 ⇒ gives 99 0 0
    ∷ Ask 9901 ⇒ gives 100 0 0
    ∷ Ask 1 ⇒ gives 1 0 0
    ∷ lot 1 200 67 0 0 ⇒ gives 1 200 200
    ∷ Ask 50 ⇒ gives 15 0 0
    ∷ []

unfoldable pub level_case : List Step
level_case =
    start 2 0 2 0 ⇒ gives 0 0 0
    ∷ Ask 800 ⇒ gives 20 0 0
    ∷ Ask 961 ⇒ gives 25 0 0
    ∷ lot 1 800 20 1 1 ⇒ gives 3 0 1
    ∷ lot 2 800 20 1 1 ⇒ gives 3 0 2
    ∷ Ask 800 ⇒ gives 50 0 0
    ∷ []

unfoldable pub strict_case : List Step
strict_case = start 2 0 7 0 ⇒ gives 0 0 0 ∷ Ask 2 ⇒ gives 2 0 0 ∷ Ask 1 ⇒ refused 11 ∷ []

unfoldable pub continuous_case : List Step
continuous_case =
    start 3 0 116 48 ⇒ gives 0 0 0
    ∷ run 116 0 ⇒ gives 116 1 0
    ∷ block 10 0 ⇒ gives 48 0 1
    ∷ block 5 1 ⇒ gives 4 42 0
    ∷ Read ⇒ gives 3 168 0
    ∷ []

-- so many lots of five, with labels from the first on, as many wrong in each and the same answer
unfoldable pub lots_alike : ℕ → ℕ → ℕ → Answer → List Step
lots_alike first zero d answer = []
lots_alike first (suc i) d answer = lots_alike first i d answer ++ (lot (first + i) 5 5 d d ⇒ answer ∷ [])

-- accepted on normal
abbrev pub accepted_lots : ℕ → List Step
accepted_lots n = lots_alike 0 n 0 (gives 1 5 1)

-- reduced after ten accepted in a row, where option 1 permits it; the withheld lot that ends reduced leads to normal and stays in the
-- window, so that the next withheld lot leads to tightened. A stop ends reduced above three days
unfoldable pub reduced_case : List Step
reduced_case =
    (start 2 1 2 0 ⇒ gives 0 0 0 ∷ accepted_lots 9)
    ++ (lot 10 5 5 0 0 ⇒ gives 1 5 0
    ∷ Ask 800 ⇒ gives 8 0 0
    ∷ stop 1 3 ⇒ gives 0 0 0
    ∷ Ask 800 ⇒ gives 8 0 0
    ∷ stop 1 4 ⇒ gives 0 0 0
    ∷ Ask 800 ⇒ gives 20 0 0
    ∷ Back ⇒ gives 4 0 0
    ∷ Ask 800 ⇒ gives 8 0 0
    ∷ lot 11 5 5 1 1 ⇒ gives 3 0 1
    ∷ lot 12 5 5 1 1 ⇒ gives 3 0 2
    ∷ [])

-- credit is lost with every wrong lot, and the verdict is by the credit before it
unfoldable pub wrong_lots : List Step
wrong_lots =
    start 1 0 15000 0 ⇒ gives 0 0 0
    ∷ lot 1 201 51 0 0 ⇒ gives 1 201 201
    ∷ lot 2 192 28 1 1 ⇒ gives 3 0 0
    ∷ lot 3 192 50 1 7 ⇒ gives 2 185 0
    ∷ Read ⇒ gives 3 386 0
    ∷ Ask 192 ⇒ gives 50 0 0
    ∷ []

-- a take-back restores what stood before
unfoldable pub taken_back : List Step
taken_back =
    start 3 0 10 4 ⇒ gives 0 0 0
    ∷ run 10 0 ⇒ gives 10 1 0
    ∷ block 1 0 ⇒ gives 4 0 1
    ∷ Read ⇒ gives 2 14 65539
    ∷ block 3 1 ⇒ gives 2 5 0
    ∷ Read ⇒ gives 3 16 0
    ∷ Back ⇒ gives 3 0 0
    ∷ Read ⇒ gives 2 14 65539
    ∷ []

-- on tightened, the ninth lot without five accepted in a row does not yet discontinue; the tenth does, and can be taken back
unfoldable pub discontinued_case : List Step
discontinued_case =
    (start 2 0 1 0 ⇒ gives 0 0 0 ∷ lot 0 5 5 1 1 ⇒ gives 3 0 1 ∷ [])
    ++ lots_alike 1 2 1 (gives 3 0 2)
    ++ lots_alike 3 4 0 (gives 1 5 2)
    ++ lots_alike 7 4 1 (gives 3 0 2)
    ++ (lot 11 5 5 1 1 ⇒ gives 3 0 3
    ∷ lot 12 5 5 0 0 ⇒ refused 8
    ∷ stop 1 0 ⇒ refused 8
    ∷ Ask 5 ⇒ refused 8
    ∷ run 1 0 ⇒ refused 7
    ∷ Back ⇒ gives 1 0 0
    ∷ lot 12 5 5 0 0 ⇒ gives 1 5 3
    ∷ [])

-- without option 1 the level stays
unfoldable pub not_permitted : List Step
not_permitted = start 2 0 2 0 ⇒ gives 0 0 0 ∷ accepted_lots 11

-- the tenth lot on tightened, if it is the fifth accepted in a row, leads to normal
unfoldable pub five_beat_ten : List Step
five_beat_ten =
    (start 2 0 1 0 ⇒ gives 0 0 0 ∷ lot 0 5 5 1 1 ⇒ gives 3 0 1 ∷ [])
    ++ lots_alike 1 6 1 (gives 3 0 2)
    ++ lots_alike 7 4 0 (gives 1 5 2)
    ++ (lot 11 5 5 0 0 ⇒ gives 1 5 1 ∷ [])

-- each refusal of a credit stream at its edge
unfoldable pub credit_edges : List Step
credit_edges =
    Read ⇒ refused 6
    ∷ lot 1 201 51 0 0 ⇒ refused 6
    ∷ Back ⇒ refused 6
    ∷ Ask 201 ⇒ refused 6
    ∷ start 4 0 1 0 ⇒ refused 5
    ∷ start 1 0 0 0 ⇒ refused 5
    ∷ start 1 0 500001 0 ⇒ refused 5
    ∷ start 1 0 15000 1 ⇒ refused 5
    ∷ start 1 2 15000 0 ⇒ refused 5
    ∷ start 1 0 15000 0 ⇒ gives 0 0 0
    ∷ start 1 0 15000 0 ⇒ refused 4
    ∷ Back ⇒ refused 16
    ∷ Ask 0 ⇒ refused 11
    ∷ Ask 1000001 ⇒ refused 11
    ∷ lot 1 201 50 0 0 ⇒ refused 12
    ∷ lot 1 201 51 52 52 ⇒ refused 13
    ∷ lot 1 201 51 0 1 ⇒ refused 13
    ∷ lot 1 201 51 1 0 ⇒ refused 13
    ∷ lot 1 201 51 1 152 ⇒ refused 13
    ∷ lot 1 201 51 1 151 ⇒ gives 2 50 0
    ∷ lot 1 201 51 0 0 ⇒ refused 10
    ∷ run 1 0 ⇒ refused 7
    ∷ block 1 0 ⇒ refused 7
    ∷ []

-- with option 1 a wrong lot is heard whole, credit or not
unfoldable pub agreed_case : List Step
agreed_case =
    start 1 1 15000 0 ⇒ gives 0 0 0
    ∷ lot 1 201 51 0 0 ⇒ gives 1 201 201
    ∷ lot 2 192 28 1 3 ⇒ gives 2 189 0
    ∷ []

-- paper 02, card 3: a ceiling of 100 holds back the samples of a credit that has passed it, and the credit grows on; the verdict is by the
-- credit
unfoldable pub ceiling_case : List Step
ceiling_case =
    start_under 100 1 0 10000 0 ⇒ gives 0 0 0
    ∷ Ask 50 ⇒ gives 34 0 0
    ∷ lot 1 50 34 0 0 ⇒ gives 1 50 50
    ∷ Ask 50 ⇒ gives 25 0 0
    ∷ lot 2 50 25 0 0 ⇒ gives 1 50 100
    ∷ Ask 50 ⇒ gives 20 0 0
    ∷ lot 3 50 20 0 0 ⇒ gives 1 50 150
    ∷ Ask 50 ⇒ gives 20 0 0
    ∷ lot 4 50 17 0 0 ⇒ refused 12
    ∷ lot 4 50 20 0 0 ⇒ gives 1 50 200
    ∷ lot 5 50 20 1 1 ⇒ gives 3 0 0
    ∷ Ask 50 ⇒ gives 34 0 0
    ∷ []

-- only a credit plan may set a ceiling, up to 128,000,000; 4 comes before 5
unfoldable pub ceiling_edges : List Step
ceiling_edges =
    start_under 128000001 1 0 10000 0 ⇒ refused 5
    ∷ start_under 1 2 0 2 0 ⇒ refused 5
    ∷ start_under 1 3 0 10 4 ⇒ refused 5
    ∷ start_under 128000000 1 0 10000 0 ⇒ gives 0 0 0
    ∷ start_under 128000001 1 0 10000 0 ⇒ refused 4
    ∷ []

-- each refusal of a continuous stream at its edge; a stop of more than three days breaks in sampling, and in screening c stays
unfoldable pub continuous_edges : List Step
continuous_edges =
    start 3 1 10 4 ⇒ refused 5
    ∷ start 3 0 10 1 ⇒ refused 5
    ∷ start 3 0 10 201 ⇒ refused 5
    ∷ start 3 0 10001 4 ⇒ refused 5
    ∷ start 3 0 10 4 ⇒ gives 0 0 0
    ∷ run 0 0 ⇒ refused 15
    ∷ run 10001 0 ⇒ refused 15
    ∷ run 1 2 ⇒ refused 15
    ∷ run 10 1 ⇒ refused 14
    ∷ block 1 0 ⇒ refused 14
    ∷ run 4 0 ⇒ gives 4 0 0
    ∷ stop 1 9 ⇒ gives 0 0 0
    ∷ Read ⇒ gives 2 4 4
    ∷ run 6 0 ⇒ gives 6 1 0
    ∷ run 1 0 ⇒ refused 14
    ∷ block 0 0 ⇒ refused 15
    ∷ block 5 0 ⇒ refused 15
    ∷ block 1 2 ⇒ refused 15
    ∷ stop 1 3 ⇒ gives 0 0 0
    ∷ Read ⇒ gives 4 10 65536
    ∷ stop 1 4 ⇒ gives 0 0 0
    ∷ Read ⇒ gives 5 10 0
    ∷ stop 0 0 ⇒ refused 15
    ∷ stop 3 0 ⇒ refused 15
    ∷ stop 1 256 ⇒ refused 15
    ∷ stop 2 1 ⇒ refused 15
    ∷ lot 1 5 5 0 0 ⇒ refused 7
    ∷ Ask 5 ⇒ refused 7
    ∷ run 3 1 ⇒ gives 3 0 0
    ∷ run 3 0 ⇒ gives 3 0 0
    ∷ stop 2 0 ⇒ gives 0 0 0
    ∷ Read ⇒ gives 8 16 0
    ∷ []

-- 17 comes last of a call's list, and the second is free; the newest records are counted on an opened stream
unfoldable pub recording_edges : List Step
recording_edges =
    Newest 1 ⇒ refused 6
    ∷ start 1 0 15000 0 ⇒ gives 0 0 0
    ∷ Newest 1 ⇒ gives 0 0 0
    ∷ Enter (Lot 1 201 51 0 1 (from 0 0)) ⇒ refused 13
    ∷ Enter (Lot 1 201 51 0 0 (from 0 7)) ⇒ refused 17
    ∷ Enter (Lot 1 201 51 0 0 (from 4294967295 0)) ⇒ gives 1 201 201
    ∷ stop 1 0 ⇒ gives 0 0 0
    ∷ Newest 0 ⇒ gives 0 0 0
    ∷ Newest 1 ⇒ gives 1 0 0
    ∷ Newest 2 ⇒ gives 2 0 0
    ∷ Newest 4294967295 ⇒ gives 2 0 0
    ∷ []

-- the same of a run and a block
unfoldable pub recording_in_turn : List Step
recording_in_turn =
    start 3 0 10 4 ⇒ gives 0 0 0
    ∷ Enter (Run 11 0 (from 0 0)) ⇒ refused 14
    ∷ Enter (Run 10 0 (from 0 9)) ⇒ refused 17
    ∷ Enter (Block 1 0 (from 0 0)) ⇒ refused 14
    ∷ Enter (Run 10 0 (from 7 0)) ⇒ gives 10 1 0
    ∷ Enter (Block 1 2 (from 0 0)) ⇒ refused 15
    ∷ Enter (Block 1 0 (from 0 0)) ⇒ refused 17
    ∷ Enter (Block 1 0 (from 7 30)) ⇒ gives 4 0 1
    ∷ []

-- refusals 1, 2 and 3, each before any other; a store of paper 01's length is refused by 1
abbrev pub StoreEdges : Type 0
StoreEdges =
    ((on_store (zeros 58111) (on 16 Read)).answer ≡ refused 1)
    × ((on_store (zeros 41728) (on 0 Read)).answer ≡ refused 1)
    × ((on_store (zeros 58112) (on 16 Read)).answer ≡ refused 2)
    × ((on_store (set (zeros 58112) 10 1) (on 0 Read)).answer ≡ refused 3)
    × ((on_store (set (zeros 58112) 10 1) (on 0 (lot 1 201 51 0 0))).answer ≡ refused 3)
    × ((on_store (set (zeros 58112) 10 1) (on 1 (lot 1 201 51 0 0))).answer ≡ refused 6)

-- bytes 40 to 43 are the ceiling, and 44 to 47 are zero: a new stream whose byte is set so, on a credit and on a level plan
abbrev pub read_after : Call → ℕ → ℕ → Answer
read_after opening at byte = (on_store (set (store_after fresh (on 0 opening ∷ [])) at byte) (on 0 Read)).answer

abbrev pub CeilingBytes : Type 0
CeilingBytes =
    (read_after (start 1 0 10000 0) 43 7 ≡ gives 0 0 0)
    × (read_after (start 1 0 10000 0) 43 8 ≡ refused 3)
    × (read_after (start 1 0 10000 0) 44 1 ≡ refused 3)
    × (read_after (start 2 0 2 0) 40 1 ≡ refused 3)

-- a credit stream with so many stops takes one more until 128 records stand
abbrev pub stops : ℕ → List Entry
stops n = replicate n (Stop 1 0)

abbrev pub some_plan : Plan
some_plan = plan_of 1 0 1 0 0

abbrev pub FullAt128 : Type 0
FullAt128 =
    (refusal_of (opened some_plan (stops 127)) (stop 1 0) ≡ 0) × (refusal_of (opened some_plan (stops 128)) (stop 1 0) ≡ 9)

-- "The store", byte for byte, with card 1's recording behind each record's numbers and card 3's ceiling: the area after the calls starts
-- with these bytes, and has zeros behind them

abbrev pub AreaStarts : List Call → List ℕ → Type 0
AreaStarts calls bytes =
    area_at 0 (store_after fresh (on_all 0 calls)) ≡ bytes ++ zeros (area_length - length bytes)

unfoldable pub credit_area : List ℕ
credit_area =
    1 ∷ 0 ∷ 1 ∷ 0 ∷ 152 ∷ 58 ∷ 0 ∷ 0 ∷ 0 ∷ 0 ∷ 0 ∷ 0 ∷ 0 ∷ 0 ∷ 0 ∷ 0
    ∷ 201 ∷ 0 ∷ 0 ∷ 0 ∷ 0 ∷ 0 ∷ 0 ∷ 0 ∷ 0 ∷ 0 ∷ 0 ∷ 0 ∷ 0 ∷ 0 ∷ 0 ∷ 0
    ∷ 201 ∷ 0 ∷ 0 ∷ 0 ∷ 0 ∷ 0 ∷ 0 ∷ 0 ∷ 1 ∷ 2 ∷ 3 ∷ 4 ∷ 0 ∷ 0 ∷ 0 ∷ 0
    ∷ 1 ∷ 0 ∷ 0 ∷ 0 ∷ 1 ∷ 0 ∷ 0 ∷ 0 ∷ 201 ∷ 0 ∷ 0 ∷ 0 ∷ 0 ∷ 0 ∷ 0 ∷ 0 ∷ 0 ∷ 0 ∷ 0 ∷ 0
    ∷ 1 ∷ 0 ∷ 0 ∷ 0 ∷ 0 ∷ 0 ∷ 0 ∷ 0
    ∷ []

unfoldable pub level_area : List ℕ
level_area =
    2 ∷ 1 ∷ 1 ∷ 0 ∷ 2 ∷ 0 ∷ 0 ∷ 0 ∷ 0 ∷ 0 ∷ 0 ∷ 0 ∷ 0 ∷ 0 ∷ 0 ∷ 0
    ∷ 0 ∷ 0 ∷ 0 ∷ 0 ∷ 1 ∷ 0 ∷ 0 ∷ 1 ∷ 0 ∷ 0 ∷ 0 ∷ 0 ∷ 0 ∷ 0 ∷ 0 ∷ 0
    ∷ 0 ∷ 0 ∷ 0 ∷ 0 ∷ 0 ∷ 0 ∷ 0 ∷ 0 ∷ 0 ∷ 0 ∷ 0 ∷ 0 ∷ 0 ∷ 0 ∷ 0 ∷ 0
    ∷ 1 ∷ 0 ∷ 0 ∷ 0 ∷ 7 ∷ 0 ∷ 0 ∷ 0 ∷ 44 ∷ 1 ∷ 0 ∷ 0 ∷ 1 ∷ 0 ∷ 0 ∷ 0 ∷ 1 ∷ 0 ∷ 0 ∷ 0
    ∷ 1 ∷ 2 ∷ 3 ∷ 4 ∷ 128 ∷ 81 ∷ 1 ∷ 0
    ∷ []

-- a run of recording 7, a block of recording 8, and a stop
unfoldable pub three_stand : List Call
three_stand =
    start 3 0 10 4 ∷ Enter (Run 10 0 (from 7 60)) ∷ Enter (Block 1 0 (from 8 30)) ∷ stop 1 2 ∷ []

unfoldable pub continuous_area : List ℕ
continuous_area =
    3 ∷ 0 ∷ 3 ∷ 0 ∷ 10 ∷ 0 ∷ 0 ∷ 0 ∷ 4 ∷ 0 ∷ 0 ∷ 0 ∷ 0 ∷ 0 ∷ 0 ∷ 0
    ∷ 0 ∷ 0 ∷ 0 ∷ 0 ∷ 0 ∷ 0 ∷ 0 ∷ 0 ∷ 0 ∷ 0 ∷ 0 ∷ 0 ∷ 1 ∷ 0 ∷ 3 ∷ 0
    ∷ 14 ∷ 0 ∷ 0 ∷ 0 ∷ 0 ∷ 0 ∷ 0 ∷ 0 ∷ 0 ∷ 0 ∷ 0 ∷ 0 ∷ 0 ∷ 0 ∷ 0 ∷ 0
    ∷ 2 ∷ 0 ∷ 0 ∷ 0 ∷ 10 ∷ 0 ∷ 0 ∷ 0 ∷ 0 ∷ 0 ∷ 0 ∷ 0 ∷ 0 ∷ 0 ∷ 0 ∷ 0 ∷ 0 ∷ 0 ∷ 0 ∷ 0
    ∷ 7 ∷ 0 ∷ 0 ∷ 0 ∷ 60 ∷ 0 ∷ 0 ∷ 0
    ∷ 3 ∷ 0 ∷ 0 ∷ 0 ∷ 1 ∷ 0 ∷ 0 ∷ 0 ∷ 0 ∷ 0 ∷ 0 ∷ 0 ∷ 0 ∷ 0 ∷ 0 ∷ 0 ∷ 0 ∷ 0 ∷ 0 ∷ 0
    ∷ 8 ∷ 0 ∷ 0 ∷ 0 ∷ 30 ∷ 0 ∷ 0 ∷ 0
    ∷ 4 ∷ 1 ∷ 0 ∷ 0 ∷ 2 ∷ 0 ∷ 0 ∷ 0 ∷ 0 ∷ 0 ∷ 0 ∷ 0 ∷ 0 ∷ 0 ∷ 0 ∷ 0 ∷ 0 ∷ 0 ∷ 0 ∷ 0
    ∷ 0 ∷ 0 ∷ 0 ∷ 0 ∷ 0 ∷ 0 ∷ 0 ∷ 0
    ∷ []

abbrev pub BytesHold : Type 0
BytesHold =
    AreaStarts (start_under 67305985 1 0 15000 0 ∷ lot 1 201 51 0 0 ∷ []) credit_area
    × AreaStarts (start 2 1 2 0 ∷ Enter (Lot 7 300 16 1 1 (from 67305985 86400)) ∷ []) level_area
    × AreaStarts three_stand continuous_area

-- the part of the store with the newest records, on stream 2
abbrev pub PartsHold : Type 0
PartsHold =
    (newest_part (store_after fresh (on_all 2 three_stand)) 2 0 ≡ record { offset = 7396; length = 0 })
    × (newest_part (store_after fresh (on_all 2 three_stand)) 2 2 ≡ record { offset = 7340; length = 56 })
    × (newest_part (store_after fresh (on_all 2 three_stand)) 2 4 ≡ record { offset = 7312; length = 84 })
    × (newest_part (store_after fresh (on_all 2 three_stand)) 1 4 ≡ record { offset = 0; length = 0 })
    × (newest_records (store_after fresh (on_all 2 three_stand)) 2 2 ≡ records_of (Stop 1 2 ∷ Block 1 0 (from 8 30) ∷ []))

-- every case, as one claim
abbrev pub CasesHold : Type 0
CasesHold =
    Gives frame_case
    × Gives credit_case
    × Gives level_case
    × StationGives strict_case
    × Gives continuous_case
    × StationGives reduced_case
    × StationGives not_permitted
    × StationGives five_beat_ten
    × StationGives discontinued_case
    × StationGives wrong_lots
    × StationGives agreed_case
    × StationGives ceiling_case
    × StationGives ceiling_edges
    × Gives taken_back
    × StationGives credit_edges
    × StationGives continuous_edges
    × StationGives recording_edges
    × StationGives recording_in_turn
    × FullAt128
    × StoreEdges
    × CeilingBytes
    × BytesHold
    × PartsHold
