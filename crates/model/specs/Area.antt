-- A station in the bytes of its area: paper 01, "The store", every offset, and paper 02, card 3, bytes 40 to 43. Assumes nothing.
use Rattle.std.specs.Prelude.{ℕ, zero, suc, ◌*◌, ◌-◌, Bool, true, false, cond, ◌&&◌, List, [], ◌∷◌, ◌++◌, eqb, length, get_or, replicate}
use Rattle.little.specs.Little.{bytes, value, part}
use Rattle.model.specs.declared.Plan.{Plan}
use Rattle.model.specs.declared.Entry.{Entry}
use Rattle.model.specs.declared.Figures.{Figures}
use Rattle.model.specs.declared.Call.{Call}
use Rattle.model.specs.declared.Answer.{Answer}
use Rattle.model.specs.Sizes.{record_length, header_length, most_records, area_length}
use Rattle.model.specs.Stations.{Station, unopened, opened}
use Rattle.model.specs.Figuring.{figures_of}
use Rattle.model.specs.Records.{byte, record_bytes, record_in, record_of, entry_of}
use Rattle.model.specs.Calls.{call, refused, admissible_station}

abbrev pub zeros : ℕ → List ℕ
zeros n = replicate n 0

-- the header, bytes 0 to 47, with so many standing records: each field at its offset, and zeros between
unfoldable pub header_of : Plan → ℕ → Figures → List ℕ
header_of p count f =
    byte p.kind  -- 0
    ++ byte p.option  -- 1
    ++ bytes 2 count  -- 2
    ++ bytes 4 p.a  -- 4
    ++ bytes 2 p.b  -- 8
    ++ zeros 2  -- 10
    ++ zeros 4  -- 12
    ++ bytes 4 f.credit.0  -- 16
    ++ byte f.level.level  -- 20
    ++ byte f.level.row  -- 21
    ++ byte f.level.judged  -- 22, lots judged on tightened
    ++ byte f.level.window  -- 23, withheld marks
    ++ bytes 4 f.continuous.count  -- 24, screening count
    ++ byte f.continuous.phase  -- 28
    ++ zeros 1  -- 29
    ++ bytes 2 f.continuous.tail  -- 30
    ++ bytes 8 f.accepted  -- 32
    ++ bytes 4 p.ceiling  -- 40
    ++ zeros 4  -- 44

-- the records, oldest first
unfoldable pub records_of : List Entry → List ℕ
records_of [] = []
records_of (e ∷ es) = records_of es ++ record_bytes (record_of e)

-- the whole area; all zero while unopened
unfoldable pub area_of : Station → List ℕ
area_of unopened = zeros area_length
area_of (opened p es) =
    header_of p (length es) (figures_of p es) ++ (records_of es ++ zeros (record_length * (most_records - length es)))

-- what an area's bytes say, whether or not they are sound

unfoldable pub plan_in : List ℕ → Plan
plan_in area =
    record {
      kind = get_or area 0 0;
      option = get_or area 1 0;
      a = value (part 4 4 area);
      b = value (part 8 2 area);
      ceiling = value (part 40 4 area);
    }

unfoldable pub count_in : List ℕ → ℕ
count_in area = value (part 2 2 area)

-- the entries in the first records of a list of records
unfoldable pub entries_in : Plan → List ℕ → ℕ → List Entry
entries_in p records zero = []
entries_in p records (suc i) =
    let es : List Entry = entries_in p records i in
    entry_of p (figures_of p es) (record_in (part (record_length * i) record_length records)) ∷ es

unfoldable pub station_in : List ℕ → Station
station_in area =
    cond (eqb (get_or area 0 0) 0) unopened
    (opened (plan_in area) (entries_in (plan_in area) (part header_length (record_length * most_records) area) (count_in area)))

unfoldable pub same_bytes : List ℕ → List ℕ → Bool
same_bytes [] [] = true
same_bytes [] (y ∷ ys) = false
same_bytes (x ∷ xs) [] = false
same_bytes (x ∷ xs) (y ∷ ys) = eqb x y && same_bytes xs ys

-- an area is unsound, or holds a station
pub data Reading : Type 0 where
  unsound : Reading
  holds : Station → Reading

abbrev reading_of : Bool → Station → Reading
reading_of true st = holds st
reading_of false st = unsound

-- the reading: what the bytes say, if calls could have left it and its bytes are these
unfoldable pub reading : List ℕ → Reading
reading area = reading_of (same_bytes (area_of (station_in area)) area && admissible_station (station_in area)) (station_in area)

-- a call on an area: 3 where it is unsound; else the call on the station that it holds
pub record AreaOutcome : Type 0 where
  pub answer : Answer
  pub area : List ℕ

abbrev on_reading : List ℕ → Call → Reading → AreaOutcome
on_reading area c unsound = record { answer = refused 3; area = area }
on_reading area c (holds st) = record { answer = (call st c).answer; area = area_of (call st c).station }

unfoldable pub on_area : List ℕ → Call → AreaOutcome
on_area area c = on_reading area c (reading area)
