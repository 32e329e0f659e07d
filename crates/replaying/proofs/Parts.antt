-- An area is sound where each of its parts is what a replay asks of it: the records one after the other, the header with the plan, the
-- count and the figures after them, and the zeros behind; and in a sound area they are. Assumes nothing.
use Prim.Native.Nat.{ℕ, zero, suc, ◌+◌, ◌*◌, ◌-◌, ◌≤◌, ◌<◌}
use mathlib.Core.Path.{◌≡◌, refl, sym, ap, subst, ◌∙◌}
use mathlib.Core.Bool.{true, false}
use mathlib.Core.List.{List, [], ◌∷◌, ◌++◌, append_assoc}
use native.Mathlib.Nat.{add-zero, add-suc}
use native.Mathlib.Omega.{arith}
use lib.Dec.{T}
use lib.ListN.{length, get_or, take, drop}
use lib.Seq.{take-add, take_at, drop_at, drop-drop}
use borrow.Author.Tests.{eqb-true}
use Rattle.little.specs.Little.{part, AreBytes}
use Rattle.little.proofs.Laws.{length_part, part_part, part_and_rest}
use Rattle.model.specs.declared.Plan.{Plan}
use Rattle.model.specs.declared.Entry.{Entry}
use Rattle.model.specs.declared.Figures.{Figures}
use Rattle.model.specs.Sizes.{record_length, header_length, most_records, area_length}
use Rattle.model.specs.Stations.{unopened, opened, valid_plan, entry_arguments, all_words}
use Rattle.model.specs.Figuring.{stepped, figures_of}
use Rattle.model.specs.Records.{record_bytes, record_in, record_of, entry_of}
use Rattle.model.specs.Calls.{first_refusal, entry_refusals, admissible, accepts}
use Rattle.model.specs.Area.{zeros, header_of, records_of, area_of, plan_in, count_in, entries_in, holds, reading}
use Rattle.model.proofs.Booleans.{both_true}
use Rattle.model.proofs.Allowed.{passed_all, newest_of_lem, count_within, plan_range}
use Rattle.model.proofs.Keeping.{plan_of_lem, entries_of, opened_admissible, entry_admissible}
use Rattle.model.proofs.AreaReading.{
  length_records,
  length_header,
  length_opened,
  plan_read,
  count_read,
  entry_read,
  entries_read,
  part_record,
  records_in_lem,
  reading_of_area,
  area_of_reading,
}
use Rattle.records.specs.Records.{record_at}
use Rattle.records.proofs.Laws.{part_bytes, record_at_lem}
use Rattle.replaying.specs.Replaying.{well_formed, stands, records_in, figures_to, stand_to}
use Rattle.replaying.proofs.RecordForm.{record_of_lem, formed_of, words_of}

-- ---- the records, one after the other

pub length_entries : (p : Plan) (records : List ℕ) (i : ℕ) → length (entries_in p records i) ≡ i
unfolding entries_in
length_entries p records zero = refl
length_entries p records (suc i) = ap suc (length_entries p records i)

module _ (p : Plan) (area : List ℕ) where
  -- the figures after one record more
  pub figures_next : (i : ℕ)
      → figures_to p area (suc i) ≡ stepped p (entry_of p (figures_to p area i) (record_in (record_at area i))) (figures_to p area i)
  unfolding entries_in figures_to figures_of records_in record_at
  figures_next i = refl

  stand_later : (i k : ℕ) → stand_to p area i ≡ false → stand_to p area (i + k) ≡ false
  unfolding stand_to
  stand_later i zero e = rw add-zero e
  stand_later i (suc k) e = rw (add-suc, stand_later i k e)

  -- records stand only behind records that stand
  pub stand_fails : (i j : ℕ) → i ≤ j → stand_to p area i ≡ false → stand_to p area j ≡ false
  stand_fails i j h e =
      let more : j ≡ i + (j - i) = omega arith in
      rw more (stand_later i (j - i) e)

  -- the newest of records that stand, and those before it
  record Stood (i : ℕ) : Type 0 where
    before : stand_to p area i ≡ true
    formed : well_formed (record_in (record_at area i)) ≡ true
    accepted : first_refusal (entry_refusals p (figures_to p area i) i (entry_of p (figures_to p area i) (record_in (record_at area i)))) ≡ 0

  stood : (i : ℕ) → stand_to p area (suc i) ≡ true → Stood i
  unfolding stand_to stands accepts
  stood i e =
      let outer = both_true (stand_to p area i) _ e in
      let inner = both_true (well_formed (record_in (record_at area i))) _ outer.1 in
      record { before = outer.0; formed = inner.0; accepted = eqb-true _ 0 inner.1 }

module _ (area : List ℕ) (i : ℕ) (l : length area ≡ area_length) (h : AreBytes area) (room : i < most_records) where
  length_record_at : length (record_at area i) ≡ record_length
  length_record_at = rw (record_at_lem area i room) (length_part _ record_length area (omega arith))

  record_at_bytes : AreBytes (record_at area i)
  record_at_bytes = rw (record_at_lem area i room) (part_bytes _ record_length area h)

module _ (p : Plan) (area : List ℕ) where
  -- calls could have left the entries of records that stand
  pub stand_admissible : (i : ℕ) → length area ≡ area_length → AreBytes area → i ≤ most_records → stand_to p area i ≡ true
      → T (admissible p (entries_in p (records_in area) i))
  unfolding entries_in figures_to records_in record_at admissible
  stand_admissible zero l h room e = tt
  stand_admissible (suc i) l h room e =
      let newest = stood p area i e in
      let others = stand_admissible i l h (omega arith) newest.before in
      let size = length_record_at area i l h room in
      let words = words_of p (figures_to p area i) (record_at area i) size (record_at_bytes area i l h room) in
      entry_admissible p (entries_in p (records_in area) i) _ others
      (rw (length_entries p (records_in area) i) newest.accepted)
      words

  -- the records that stand are those of their entries
  stand_records : (i : ℕ) → length area ≡ area_length → AreBytes area → i ≤ most_records → stand_to p area i ≡ true
      → records_of (entries_in p (records_in area) i) ≡ take (record_length * i) (records_in area)
  unfolding entries_in figures_to records_in record_at records_of part
  stand_records zero l h room e = refl
  stand_records (suc i) l h room e =
      let newest = stood p area i e in
      let others = stand_records i l h (omega arith) newest.before in
      let bytes = record_at_bytes area i l h room in
      let last = record_of_lem p (figures_to p area i) (record_at area i) (length_record_at area i l h room) bytes newest.formed in
      let size : record_length * suc i ≡ record_length * i + record_length = omega arith in
      rw (size, take-add (record_length * i) record_length (records_in area), others, last)

-- ---- from the parts to the reading

-- an area of these parts is a stream's
area_of_parts : (p : Plan) (es : List Entry) (area : List ℕ) → length area ≡ area_length → length es ≤ most_records
    → part 0 header_length area ≡ header_of p (length es) (figures_of p es)
    → part header_length (record_length * length es) area ≡ records_of es
    → drop (header_length + record_length * length es) area ≡ zeros (length area - (header_length + record_length * length es))
    → area_of (opened p es) ≡ area
unfolding area_of
area_of_parts p es area l room header records rest =
    let size : record_length * (most_records - length es) ≡ length area - (header_length + record_length * length es) = omega arith in
    rw (size, ← header, ← rest, ← records, part_and_rest header_length (record_length * length es) area)
    (part_and_rest 0 header_length area)

module _ (area : List ℕ) (l : length area ≡ area_length) (h : AreBytes area) where
  -- the first records are a part of the area
  take_records : (i : ℕ) → i ≤ most_records → take (record_length * i) (records_in area) ≡ part header_length (record_length * i) area
  unfolding records_in part
  take_records i room = part_part header_length (record_length * most_records) 0 (record_length * i) area (omega arith)

  -- an area whose parts are what a replay asks holds the entries of its records
  pub parts_sound : T (valid_plan (plan_in area)) → count_in area ≤ most_records → stand_to (plan_in area) area (count_in area) ≡ true
      → part 0 header_length area ≡ header_of (plan_in area) (count_in area) (figures_to (plan_in area) area (count_in area))
      → drop (header_length + record_length * count_in area) area ≡ zeros (length area - (header_length + record_length * count_in area))
      → reading area ≡ holds (opened (plan_in area) (entries_in (plan_in area) (records_in area) (count_in area)))
  unfolding figures_to
  parts_sound valid room stand header rest =
      let p : Plan = plan_in area in
      let count : ℕ = count_in area in
      let es : List Entry = entries_in p (records_in area) count in
      let counted : length es ≡ count = length_entries p (records_in area) count in
      let records = stand_records p area count l h room stand ∙ take_records count room in
      let whole : area_of (opened p es) ≡ area =
      area_of_parts p es area l (rw counted room) (rw counted header) (rw counted (sym records)) (rw counted rest) in
      ap reading (sym whole)
      ∙ reading_of_area (opened p es) (opened_admissible p es valid (stand_admissible p area count l h room stand))

-- ---- from the reading to the parts

-- what a sound area's parts are
pub record SoundParts (p : Plan) (es : List Entry) (area : List ℕ) : Type 0 where
  pub plan : plan_in area ≡ p
  pub count : count_in area ≡ length es
  pub entries : entries_in p (records_in area) (length es) ≡ es
  pub kind : get_or area 0 0 ≡ 0 → ⊥
  pub valid : T (valid_plan p)
  pub accepted : T (admissible p es)
  pub room : length es ≤ most_records
  pub stand : stand_to p area (length es) ≡ true
  pub header : part 0 header_length area ≡ header_of p (length es) (figures_of p es)
  pub rest : drop (header_length + record_length * length es) area ≡ zeros (length area - (header_length + record_length * length es))

-- the record of an entry that was accepted stands
entry_stands : (p : Plan) (f : Figures) (i : ℕ) (e : Entry) → first_refusal (entry_refusals p f i e) ≡ 0
    → T (all_words (entry_arguments e)) → stands p f i (record_in (record_bytes (record_of e))) ≡ true
unfolding stands accepts
entry_stands p f i e h t = rw (formed_of e, entry_read p f i e (passed_all p f i e h).allowed t, h)

module _ (p : Plan) (es : List Entry) (area rest : List ℕ) (records : records_in area ≡ records_of es ++ rest) where
  -- the figures after those records
  pub figures_of_records : T (admissible p es) → figures_to p area (length es) ≡ figures_of p es
  unfolding figures_to
  figures_of_records t = rw (records, entries_read p es rest t)

-- records of entries that calls could have left stand
pub stand_of : (p : Plan) (es : List Entry) (area rest : List ℕ) → records_in area ≡ records_of es ++ rest → T (admissible p es)
    → stand_to p area (length es) ≡ true
unfolding stand_to records_of record_at records_in
stand_of p [] area rest e t = refl
stand_of p (x ∷ es) area rest e t =
    let newest = newest_of_lem p x es t in
    let records = e ∙ append_assoc (records_of es) (record_bytes (record_of x)) rest in
    let before = stand_of p es area _ records newest.others in
    rw (before, figures_of_records p es area _ records newest.others, records, part_record x es rest)
    (entry_stands p (figures_of p es) (length es) x newest.accepted newest.words)

-- a stream's area begins with its kind, which is not 0
kind_of : (p : Plan) (es : List Entry) → T (valid_plan p) → get_or (area_of (opened p es)) 0 0 ≡ 0 → ⊥
unfolding area_of header_of
kind_of p es valid e = let range = plan_range p valid in omega arith

module _ (p : Plan) (es : List Entry) where
  header_of_area : part 0 header_length (area_of (opened p es)) ≡ header_of p (length es) (figures_of p es)
  unfolding area_of part
  header_of_area = take_at (header_of p (length es) (figures_of p es)) _ _ (length_header p (length es) (figures_of p es))

  -- the zeros behind the records
  rest_of_area : length es ≤ most_records → drop (header_length + record_length * length es) (area_of (opened p es))
      ≡ zeros (length (area_of (opened p es)) - (header_length + record_length * length es))
  unfolding area_of
  rest_of_area room =
      let size : area_length - (header_length + record_length * length es) ≡ record_length * (most_records - length es) = omega arith in
      rw (length_opened p es room, size, ← drop-drop (record_length * length es) header_length)
      (rw (drop_at (header_of p (length es) (figures_of p es)) _ _ (length_header p (length es) (figures_of p es)))
      (drop_at (records_of es) _ _ (length_records es)))

-- the parts of a stream's area
parts_of_area : (p : Plan) (es : List Entry) → T (valid_plan p) → T (admissible p es) → SoundParts p es (area_of (opened p es))
unfolding records_in
parts_of_area p es valid accepted =
    let room = count_within p es accepted in
    let records = records_in_lem p es room in
    record {
      plan = plan_read p es valid accepted;
      count = count_read p es valid accepted;
      entries = rw records (entries_read p es _ accepted);
      kind = kind_of p es valid;
      valid = valid;
      accepted = accepted;
      room = room;
      stand = stand_of p es _ _ records accepted;
      header = header_of_area p es;
      rest = rest_of_area p es room;
    }

-- an area that holds a stream has its parts
pub sound_parts : (p : Plan) (es : List Entry) (area : List ℕ) → reading area ≡ holds (opened p es) → SoundParts p es area
sound_parts p es area e =
    let known = area_of_reading area (opened p es) e in
    subst (SoundParts p es) known.1 (parts_of_area p es (plan_of_lem p es known.0) (entries_of p es known.0))

-- the area of an unopened stream is all zero
pub zero_parts : (area : List ℕ) → reading area ≡ holds unopened → area ≡ zeros area_length
unfolding area_of
zero_parts area e = sym (area_of_reading area unopened e).1
