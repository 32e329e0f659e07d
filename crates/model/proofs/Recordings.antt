-- The recordings in a station's area are those of its entries: the claim RecordingsStand. By induction over the entries: the newest is read
-- where it stands, and behind the last there are zeros. Assumes nothing.
use Prim.Native.Nat.{ℕ, ◌+◌, ◌*◌, ◌-◌, ◌≤◌, ◌<◌}
use mathlib.Core.Path.{◌≡◌, refl, sym, ap, ◌∙◌}
use mathlib.Core.Bool.{Bool, true, false, not, cond}
use mathlib.Core.List.{List, [], ◌∷◌, ◌++◌, append_assoc}
use native.Mathlib.Omega.{arith}
use lib.Dec.{T, eqb, ltb}
use lib.ListN.{length}
use lib.Seq.{drop-append-add}
use borrow.Author.Tests.{eqb-true, eqb-false, ne_eqb, ltb-true, ltb-false}
use Rattle.little.specs.Little.{bytes, value, part}
use Rattle.little.proofs.Laws.{part_part}
use Rattle.model.specs.declared.Plan.{Plan}
use Rattle.model.specs.declared.Recording.{Recording}
use Rattle.model.specs.declared.Entry.{Entry}
use Rattle.model.specs.declared.Entry.TheVariants.{Lot, Run, Block, Stop}
use Rattle.model.specs.Sizes.{record_length, header_length, most_records, area_length}
use Rattle.model.specs.Stations.{Station, unopened, opened, entry_arguments, all_words}
use Rattle.model.specs.Records.{no_recording, recording_bytes, record_bytes, recording_in, record_in, record_of}
use Rattle.model.specs.Calls.{brings_recording, brought_by, lacks_recording, admissible, admissible_station}
use Rattle.model.specs.Area.{zeros, records_of, area_of}
use Rattle.model.specs.Claims.{recorded_at, recorded_in, brought_at, brought_in, recording_at, RecordingsStand}
use Rattle.model.proofs.Allowed.{newest_of_lem, count_within}
use Rattle.model.proofs.AreaReading.{length_records, part_record, part_zeros, records_in_lem, recording_read}
use Rattle.model.proofs.Keeping.{entries_of}

-- the recording of the record in these bytes
unfoldable recording_of : List ℕ → Recording
recording_of r = (record_in r).recording

zeros_bring : recording_of (zeros record_length) ≡ no_recording
unfolding recording_of record_in recording_in part value
zeros_bring = refl

-- a record has the recording that its entry brings
recording_of_lem : (e : Entry) → (record_of e).recording ≡ brought_by e
unfolding record_of brought_by
recording_of_lem (Lot label N n d D rec) = refl
recording_of_lem (Run h w rec) = refl
recording_of_lem (Block q w rec) = refl
recording_of_lem (Stop why days) = refl

entry_brings : (e : Entry) → T (all_words (entry_arguments e)) → recording_of (record_bytes (record_of e)) ≡ brought_by e
unfolding recording_of record_in recording_bytes record_bytes part bytes
entry_brings e t = recording_read e t ∙ recording_of_lem e

-- the records of standing entries
brought_before : (p : Plan) (es : List Entry) (rest : List ℕ) (i : ℕ) → T (admissible p es) → i < length es
    → recording_of (part (record_length * i) record_length (records_of es ++ rest)) ≡ brought_at es i
unfolding records_of brought_at
brought_before p [] rest i t below = absurd (omega arith)
brought_before p (e ∷ es) rest i t below =
    let newest = newest_of_lem p e es t in
    rw (append_assoc (records_of es) (record_bytes (record_of e)) rest)
    (go (entry_brings e newest.words)
    (λ earlier. brought_before p es (record_bytes (record_of e) ++ rest) i newest.others earlier)
    (eqb i (length es)) refl)
  where
    here : Recording → Type 0
    here rec = recording_of (part (record_length * i) record_length (records_of es ++ (record_bytes (record_of e) ++ rest))) ≡ rec

    go : recording_of (record_bytes (record_of e)) ≡ brought_by e → (i < length es → here (brought_at es i)) → (b : Bool) → eqb i (length es) ≡ b
        → here (cond b (brought_by e) (brought_at es i))
    go is before true k = rw (eqb-true i (length es) k, part_record e es rest) is
    go is before false k = before (omega (arith, eqb-false i (length es) k))

none_behind : (es : List Entry) (i : ℕ) → length es ≤ i → brought_at es i ≡ no_recording
unfolding brought_at
none_behind [] i h = refl
none_behind (e ∷ es) i h = rw (ne_eqb i (length es) (λ k. omega arith)) (none_behind es i (omega arith))

-- behind the last there are zeros
zeros_behind : (es : List Entry) (i : ℕ) → length es ≤ i → i < most_records
    → part (record_length * i) record_length (records_of es ++ zeros (record_length * (most_records - length es))) ≡ zeros record_length
unfolding part
zeros_behind es i h room =
    let past : ℕ = record_length * (i - length es) in
    let start : record_length * i ≡ length (records_of es) + past = omega (arith, length_records es) in
    rw (start, drop-append-add (records_of es) (zeros (record_length * (most_records - length es))) past)
    (part_zeros past record_length (record_length * (most_records - length es)) (omega arith))

own_recording : (st : Station) → T (admissible_station st) → (i : ℕ) → i < most_records → recording_at (area_of st) i ≡ brought_in st i
unfolding recording_at brought_in recording_of area_of
own_recording unopened t i room =
    ap recording_of (part_zeros (header_length + record_length * i) record_length area_length (omega arith)) ∙ zeros_bring
own_recording (opened p es) t i room =
    let entries = entries_of p es t in
    let place = sym (part_part header_length (record_length * most_records) (record_length * i) record_length (area_of (opened p es)) (omega arith)) in
    let records = ap (part (record_length * i) record_length) (records_in_lem p es (count_within p es entries)) in
    ap recording_of (place ∙ records) ∙ go entries (ltb i (length es)) refl
  where
    rest : List ℕ
    rest = zeros (record_length * (most_records - length es))

    go : T (admissible p es) → (b : Bool) → ltb i (length es) ≡ b
        → recording_of (part (record_length * i) record_length (records_of es ++ rest)) ≡ brought_at es i
    go entries true k = brought_before p es rest i entries (ltb-true i (length es) k)
    go entries false k =
        let behind : length es ≤ i = ltb-false i (length es) k in
        ap recording_of (zeros_behind es i behind room) ∙ zeros_bring ∙ sym (none_behind es i behind)

-- an entry was accepted with a number where it brings a recording, and a stop has none
has_number : (e : Entry) → lacks_recording e ≡ false → not (eqb (brought_by e).number 0) ≡ brings_recording e
unfolding lacks_recording brings_recording brought_by
has_number (Lot label N n d D rec) h = rw h
has_number (Run h w rec) k = rw k
has_number (Block q w rec) h = rw h
has_number (Stop why days) h = refl

number_found : (p : Plan) (es : List Entry) (i : ℕ) → T (admissible p es) → not (eqb (brought_at es i).number 0) ≡ recorded_at es i
unfolding brought_at recorded_at
number_found p [] i t = refl
number_found p (e ∷ es) i t =
    let newest = newest_of_lem p e es t in
    go (eqb i (length es)) (has_number e newest.recorded) (number_found p es i newest.others)
  where
    go : (b : Bool) → not (eqb (brought_by e).number 0) ≡ brings_recording e → not (eqb (brought_at es i).number 0) ≡ recorded_at es i
        → not (eqb (cond b (brought_by e) (brought_at es i)).number 0) ≡ cond b (brings_recording e) (recorded_at es i)
    go true is before = is
    go false is before = before

number_in : (st : Station) → T (admissible_station st) → (i : ℕ) → not (eqb (brought_in st i).number 0) ≡ recorded_in st i
unfolding brought_in recorded_in
number_in unopened t i = refl
number_in (opened p es) t i = number_found p es i (entries_of p es t)

pub recordings_stand_lem : (st : Station) → T (admissible_station st) → (i : ℕ) → i < most_records → RecordingsStand st (area_of st) i
recordings_stand_lem st t i room =
    let own = own_recording st t i room in
    record { own = own; found = ap (λ (rec : Recording). not (eqb rec.number 0)) own ∙ number_in st t i }
