-- A record: paper 01, "The store", offset 48 on, and paper 02, card 1. Its numbers, its bytes, and the entry in it. Assumes nothing.
use Rattle.std.specs.Prelude.{ℕ, cond, List, [], ◌∷◌, ◌++◌, eqb, get_or}
use Rattle.little.specs.Little.{bytes, value, part}
use Rattle.model.specs.declared.Plan.{Plan}
use Rattle.model.specs.declared.Entry.{Entry}
use Rattle.model.specs.declared.Entry.TheVariants.{Lot, Run, Block, Stop}
use Rattle.model.specs.declared.Figures.{Figures}
use Rattle.model.specs.declared.Recording.{Recording}
use Rattle.model.specs.declared.Record.{Record}
use Rattle.model.specs.Figuring.{sample_asked}

-- a number that is one byte
abbrev pub byte : ℕ → List ℕ
byte n = n ∷ []

-- a recording's bytes: number, start second
unfoldable pub recording_bytes : Recording → List ℕ
recording_bytes rec = bytes 4 rec.number ++ bytes 4 rec.second

-- a record's bytes: kind, flag, two that are zero in a sound store, four numbers, the recording
unfoldable pub record_bytes : Record → List ℕ
record_bytes r =
    byte r.kind  -- 0
    ++ byte r.flag  -- 1
    ++ bytes 2 r.spare  -- 2
    ++ bytes 4 r.a  -- 4
    ++ bytes 4 r.b  -- 8
    ++ bytes 4 r.c  -- 12
    ++ bytes 4 r.d  -- 16
    ++ recording_bytes r.recording  -- 20

-- what the bytes of a recording say
unfoldable pub recording_in : List ℕ → Recording
recording_in r = record { number = value (part 0 4 r); second = value (part 4 4 r) }

-- what the bytes of a record say
unfoldable pub record_in : List ℕ → Record
record_in r =
    record {
      kind = get_or r 0 0;
      flag = get_or r 1 0;
      spare = value (part 2 2 r);
      a = value (part 4 4 r);
      b = value (part 8 4 r);
      c = value (part 12 4 r);
      d = value (part 16 4 r);
      recording = recording_in (part 20 8 r);
    }

-- what a stop has: zeros in place of a recording
abbrev pub no_recording : Recording
no_recording = record { number = 0; second = 0 }

-- a run, a block and a stop have one number
abbrev pub run_kind : ℕ
run_kind = 2

abbrev pub block_kind : ℕ
block_kind = 3

abbrev pub stop_kind : ℕ
stop_kind = 4

abbrev pub with_one : ℕ → ℕ → ℕ → Recording → Record
with_one kind flag a rec = record { kind = kind; flag = flag; spare = 0; a = a; b = 0; c = 0; d = 0; recording = rec }

-- a lot has four, and no flag
abbrev pub lot_kind : ℕ
lot_kind = 1

abbrev pub lot_record : ℕ → ℕ → ℕ → ℕ → Recording → Record
lot_record label N d D rec = record { kind = lot_kind; flag = 0; spare = 0; a = label; b = N; c = d; d = D; recording = rec }

-- the record of an entry
unfoldable pub record_of : Entry → Record
record_of (Lot label N n d D rec) = lot_record label N d D rec
record_of (Run h w rec) = with_one run_kind w h rec
record_of (Block q w rec) = with_one block_kind w q rec
record_of (Stop why days) = with_one stop_kind why days no_recording

-- the entry in a record, after figures f. A lot's sample is in no record: it is the one that was asked
unfoldable pub entry_of : Plan → Figures → Record → Entry
entry_of p f r =
    cond (eqb r.kind lot_kind) (Lot r.a r.b (sample_asked p f r.b) r.c r.d r.recording)
    (cond (eqb r.kind run_kind) (Run r.a r.flag r.recording)
    (cond (eqb r.kind block_kind) (Block r.a r.flag r.recording) (Stop r.flag r.a)))
