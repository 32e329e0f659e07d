-- Reading an area record after record: what each record has to be, and what the replay then knows. Assumes nothing.
use Rattle.std.specs.Prelude.{ℕ, zero, suc, ◌+◌, ◌*◌, ◌≤◌, ◌<◌, Bool, true, false, cond, ◌&&◌, ◌||◌, List, ◌≡◌, T, eqb, length, Option, Some, None, Result, Ok, Err, IfSome, option_map}
use Rattle.little.specs.Little.{part}
use Rattle.model.specs.declared.Plan.{Plan}
use Rattle.model.specs.declared.Entry.{Entry}
use Rattle.model.specs.declared.Entry.TheVariants.{Lot}
use Rattle.model.specs.declared.Figures.{Figures}
use Rattle.model.specs.declared.Record.{Record}
use Rattle.model.specs.Calls.{is_discontinued, allows, accepts, admissible}
use Rattle.model.specs.Sizes.{record_length, header_length, most_records, area_length}
use Rattle.model.specs.Stations.{valid_plan}
use Rattle.model.specs.FigureBounds.{FiguresWithRoom}
use Rattle.plans.specs.Limits.{within}
use Rattle.model.specs.Figuring.{sample_asked, started, stepped, figures_of}
use Rattle.model.specs.Records.{no_recording, lot_kind, run_kind, block_kind, stop_kind, record_in, entry_of}
use Rattle.model.specs.Area.{entries_in}
use Rattle.records.specs.Records.{record_at}

-- a record without a second, third or fourth number
abbrev pub one_number : Record → Bool
one_number r = eqb r.b 0 && eqb r.c 0 && eqb r.d 0

-- a record with zeros in place of a recording
abbrev pub unrecorded : Record → Bool
unrecorded r = eqb r.recording.number 0 && eqb r.recording.second 0

-- a record of a kind that exists, with zeros wherever its kind has nothing to say
unfoldable pub well_formed : Record → Bool
well_formed r =
    eqb r.spare 0
    && cond (eqb r.kind lot_kind) (eqb r.flag 0)
    ((eqb r.kind run_kind || eqb r.kind block_kind || (eqb r.kind stop_kind && unrecorded r)) && one_number r)

-- the first four bytes of a record as one number
unfoldable pub head_of : Record → ℕ
head_of r = r.kind + r.flag * 256 + r.spare * 65536

-- the head of a record with this kind and flag; without a flag it is the kind
abbrev pub flagged : ℕ → ℕ → ℕ
flagged kind flag = kind + flag * 256

abbrev pub wrong_run : ℕ
wrong_run = flagged run_kind 1

abbrev pub wrong_block : ℕ
wrong_block = flagged block_kind 1

-- a stop of why 1, and one of why 2
abbrev pub pause : ℕ
pause = flagged stop_kind 1

abbrev pub change : ℕ
change = flagged stop_kind 2

-- a lot's record with nothing wrong in the sample, nor in all that was heard
unfoldable pub faultless : Record → Bool
faultless r = eqb (head_of r) lot_kind && (eqb r.c 0 && eqb r.d 0)

-- the record of a stop that was accepted, paper 01, "The store": kind 4, its why as the flag, two zero bytes, its days, and zeros, also in
-- place of a recording; the why is one of those that there are, 1 or 2
unfoldable pub holds_stop : Record → Bool
holds_stop r = eqb r.kind stop_kind && within 1 2 r.flag && eqb r.spare 0 && one_number r && unrecorded r

-- the why of the stop that a record holds
unfoldable pub why_of : Record → Option ℕ
why_of r = cond (holds_stop r) (Some r.flag) None

-- a record that some accepted call could have left as the i-th, after figures f
unfoldable pub stands : Plan → Figures → ℕ → Record → Bool
stands p f i r = well_formed r && accepts p f i (entry_of p f r)

-- the figures after, where the test holds
abbrev pub entered_if : Bool → Figures → Option Figures
entered_if test after = cond test (Some after) None

-- what entering a record gives: the figures after it, where it stands
unfoldable pub entered : Plan → Figures → ℕ → Record → Option Figures
entered p f i r = entered_if (stands p f i r) (stepped p (entry_of p f r) f)

-- what an entry gives wherever a place is free: the figures after it, where paper 01's rules allow it. They look at no recording, so
-- that an entry is tried without one
unfoldable pub tried : Plan → Figures → Entry → Option Figures
tried p f e = entered_if (allows p f 0 e) (stepped p e f)

-- a lot with the sample that was asked
unfoldable pub asked_lot : Plan → Figures → ℕ → ℕ → ℕ → ℕ → Entry
asked_lot p f label N d D = Lot label N (sample_asked p f N) d D no_recording

-- figures that calls could have left
pub record Left (p : Plan) (f : Figures) : Type 0 where
  pub entries : List Entry
  pub valid : T (valid_plan p)
  pub stood : T (admissible p entries)
  pub after : f ≡ figures_of p entries

-- and with a place free for one entry more
pub record Reached (p : Plan) (f : Figures) : Type 0 where
  pub entries : List Entry
  pub valid : T (valid_plan p)
  pub stood : T (admissible p entries)
  pub free : length entries < most_records
  pub after : f ≡ figures_of p entries

-- the records of an area
unfoldable pub records_in : List ℕ → List ℕ
records_in area = part header_length (record_length * most_records) area

-- the figures after an area's first records
unfoldable pub figures_to : Plan → List ℕ → ℕ → Figures
figures_to p area i = figures_of p (entries_in p (records_in area) i)

-- each of an area's first records stands
unfoldable pub stand_to : Plan → List ℕ → ℕ → Bool
stand_to p area zero = true
stand_to p area (suc i) = stand_to p area i && stands p (figures_to p area i) i (record_in (record_at area i))

-- what a replay of the records from `from` to `to` starts with: the figures after those before
pub record Ready (p : Plan) (area : List ℕ) (f : Figures) (from to : ℕ) : Type 0 where
  pub whole : length area ≡ area_length
  pub valid : T (valid_plan p)
  pub in_order : from ≤ to
  pub room : to ≤ most_records
  pub stood : stand_to p area from ≡ true
  pub brought : f ≡ figures_to p area from

-- the figures of a replay, whether all records stood or not
abbrev pub figures_told : Result Figures Figures → Figures
figures_told (Ok f) = f
figures_told (Err f) = f

-- where records stand the figures are those after them, and else those before
abbrev pub replayed_if : Bool → Figures → Figures → Result Figures Figures
replayed_if stand after before = cond stand (Ok after) (Err before)

-- what a replay of an area's first records gives, entry after entry: the figures after them where each stands, and else those before the
-- first that does not
unfoldable pub replayed : Plan → List ℕ → ℕ → Result Figures Figures
replayed p area zero = Ok (started p)
replayed p area (suc i) = replayed_if (stand_to p area (suc i)) (figures_to p area (suc i)) (figures_told (replayed p area i))

-- numbers of a stream whose plan is of this kind: with room for one entry more, so that no sum overflows
pub record On {C : Type 0} (kind : ℕ) (shown : C → Figures) (ranged : C → Type 0) (p : Plan) (c : C) : Type 0 where
  pub of_kind : p.kind ≡ kind
  pub valid : T (valid_plan p)
  pub room : FiguresWithRoom (shown c)
  pub in_range : ranged c

-- and of a stream that goes on
pub record GoesOn {C : Type 0} (kind : ℕ) (shown : C → Figures) (ranged : C → Type 0) (p : Plan) (c : C) : Type 0 where
  pub on : On kind shown ranged p c
  pub goes_on : is_discontinued (shown c) ≡ false

-- numbers after a step, told in the figures that they stand for: what the entry gives, and numbers in their range
pub record Tells {C : Type 0} (shown : C → Figures) (ranged : C → Type 0) (after : Option C) (gives : Option Figures) : Type 0 where
  pub same : option_map shown after ≡ gives
  pub in_range : IfSome after ranged

-- the same of numbers brought up to date in their place, by whether the record stood; they are kept where it did not
pub record Brings {C : Type 0} (shown : C → Figures) (ranged : C → Type 0) (stood : Bool) (old new : C) (gives : Option Figures) : Type 0 where
  pub same : entered_if stood (shown new) ≡ gives
  pub in_range : ranged new
  pub kept : stood ≡ false → shown new ≡ shown old
