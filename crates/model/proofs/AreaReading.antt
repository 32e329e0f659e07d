-- The area of a station that calls can have left is read back as that station, and an area that is read is its station's.
-- Assumes nothing.
use Prim.Native.Nat.{ℕ, suc, ◌+◌, ◌*◌, ◌-◌, ◌^◌, ◌≤◌, ◌<◌}
use mathlib.Core.Path.{◌≡◌, refl, ap, ap₂, ◌∙◌}
use mathlib.Core.Bool.{Bool, true, false, ◌&&◌}
use mathlib.Core.List.{List, [], ◌∷◌, ◌++◌, append_assoc}
use native.Mathlib.Omega.{arith}
use lib.Dec.{T, eqb, ltb, eqb→eq, eqb_refl, ltb→lt}
use lib.ListN.{length, drop, get_or, length-append, length-take, length-drop, length-replicate, get_or-replicate}
use lib.Seq.{take_at, drop_at, take_all, ext_get_or, get_or-take, get_or-drop}
use borrow.Author.Tests.{ne_eqb}
use Rattle.little.specs.Little.{bytes, value, part}
use Rattle.little.proofs.Laws.{value_bytes}
use Rattle.model.specs.declared.Plan.{Plan}
use Rattle.model.specs.declared.Entry.{Entry}
use Rattle.model.specs.declared.Entry.TheVariants.{Lot, Run, Block, Stop}
use Rattle.model.specs.declared.Figures.{Figures}
use Rattle.model.specs.declared.Recording.{Recording}
use Rattle.model.specs.declared.Record.{Record}
use Rattle.model.specs.Sizes.{record_length, header_length, most_records, area_length}
use Rattle.model.specs.Stations.{Station, unopened, opened, valid_plan, entry_arguments, all_words}
use Rattle.model.specs.Figuring.{figures_of}
use Rattle.model.specs.Records.{no_recording, recording_bytes, record_bytes, recording_in, record_in, record_of, entry_of}
use Rattle.model.specs.Calls.{first_refusal, rule_refusals, admissible, admissible_station}
use Rattle.model.specs.Area.{zeros, header_of, records_of, area_of, plan_in, count_in, entries_in, station_in, same_bytes, unsound, holds, reading}
use Rattle.model.proofs.Booleans.{holds_of, of_holds, both_of, both}
use Rattle.model.proofs.Allowed.{allowed_lot, newest_of_lem, count_within, plan_range}

-- ---- equal bytes

pub same_bytes_refl : (xs : List ℕ) → T (same_bytes xs xs)
unfolding same_bytes
same_bytes_refl [] = tt
same_bytes_refl (x ∷ xs) = both (eqb x x) (same_bytes xs xs) (eqb_refl x) (same_bytes_refl xs)

pub same_bytes_eq : (xs ys : List ℕ) → T (same_bytes xs ys) → xs ≡ ys
unfolding same_bytes
same_bytes_eq [] [] t = refl
same_bytes_eq [] (y ∷ ys) t = absurd t
same_bytes_eq (x ∷ xs) [] t = absurd t
same_bytes_eq (x ∷ xs) (y ∷ ys) t =
    let parts = both_of (eqb x y) (same_bytes xs ys) t in
    cc (eqb→eq x y parts.0, same_bytes_eq xs ys parts.1)

-- ---- lengths

pub length_record : (r : Record) → length (record_bytes r) ≡ record_length
unfolding record_bytes recording_bytes bytes
length_record r = refl

pub length_records : (es : List Entry) → length (records_of es) ≡ record_length * length es
unfolding records_of
length_records [] = refl
length_records (e ∷ es) = simp (length-append, length_records es, length_record (record_of e)) (omega arith)

pub length_header : (p : Plan) (count : ℕ) (f : Figures) → length (header_of p count f) ≡ header_length
unfolding header_of bytes
length_header p count f = refl

pub length_unopened : length (area_of unopened) ≡ area_length
unfolding area_of
length_unopened = length-replicate {A = ℕ} area_length 0

pub length_opened : (p : Plan) (es : List Entry) → length es ≤ most_records → length (area_of (opened p es)) ≡ area_length
unfolding area_of
length_opened p es h = simp (length-append, length_header, length_records, length-replicate) (omega arith)

-- a part of zeros
pub part_zeros : (at k n : ℕ) → at + k ≤ n → part at k (zeros n) ≡ zeros k
unfolding part
part_zeros at k n fits =
    ext_get_or 0 _ _ (simp (length-take, length-drop, length-replicate) (omega arith))
    (λ i l.
    let below : i < k = omega (arith, simp (length-take) at l) in
    let inside : at + i < n = omega arith in
    rw (
      get_or-take k (drop at (zeros n)) i 0 below,
      get_or-drop at (zeros n) i 0,
      get_or-replicate {A = ℕ} n (at + i) 0 0 inside,
      get_or-replicate {A = ℕ} k i 0 0 below,
    ))

-- ---- the header

module _ (p : Plan) (es : List Entry) (valid : T (valid_plan p)) (sound : T (admissible p es)) where
  pub plan_read : plan_in (area_of (opened p es)) ≡ p
  unfolding plan_in area_of header_of part bytes
  plan_read =
      let range = plan_range p valid in
      let a : value (bytes 4 p.a) ≡ p.a = value_bytes 4 (omega arith) in
      let b : value (bytes 2 p.b) ≡ p.b = value_bytes 2 (omega arith) in
      let ceiling : value (bytes 4 p.ceiling) ≡ p.ceiling = value_bytes 4 (omega arith) in
      λ i. record { kind = p.kind; option = p.option; a = a i; b = b i; ceiling = ceiling i }

  pub count_read : count_in (area_of (opened p es)) ≡ length es
  unfolding count_in area_of header_of part bytes
  count_read = value_bytes 2 (omega (arith, count_within p es sound))

-- ---- the records

-- the first of a list of words is got back from its four bytes, and the others are words
words_of : (n : ℕ) (ns : List ℕ) → T (all_words (n ∷ ns)) → (value (bytes 4 n) ≡ n) × T (all_words ns)
unfolding all_words
words_of n ns t =
    let parts = both_of (ltb n (2 ^ 32)) (all_words ns) t in
    (value_bytes 4 (ltb→lt n (2 ^ 32) parts.0), parts.1)

-- a recording's two numbers are words
unfoldable are_words : Recording → Bool
are_words rec = all_words (rec.number ∷ rec.second ∷ [])

zeros_are_words : T (are_words no_recording)
unfolding are_words all_words
zeros_are_words = tt

recording_words : (e : Entry) → T (all_words (entry_arguments e)) → T (are_words (record_of e).recording)
unfolding entry_arguments record_of are_words
recording_words (Lot label N n d D rec) t =
    (words_of D _ (words_of d _ (words_of n _ (words_of N _ (words_of label _ t).1).1).1).1).1
recording_words (Run h w rec) t = (words_of w _ (words_of h _ t).1).1
recording_words (Block q w rec) t = (words_of w _ (words_of q _ t).1).1
recording_words (Stop why days) t = zeros_are_words

-- a recording is got back from its eight bytes
pub recording_read : (e : Entry) → T (all_words (entry_arguments e))
    → recording_in (recording_bytes (record_of e).recording) ≡ (record_of e).recording
unfolding recording_in recording_bytes part bytes are_words
recording_read e t =
    let first = words_of (record_of e).recording.number _ (recording_words e t) in
    let second = words_of (record_of e).recording.second _ first.1 in
    λ i. record { number = first.0 i; second = second.0 i }

pub entry_read : (p : Plan) (f : Figures) (count : ℕ) (e : Entry) → first_refusal (rule_refusals p f count e) ≡ 0
    → T (all_words (entry_arguments e)) → entry_of p f (record_in (record_bytes (record_of e))) ≡ e
unfolding entry_of recording_in record_in record_of recording_bytes record_bytes part bytes entry_arguments
entry_read p f count (Lot label N n d D rec) h t =
    let first = words_of label _ t in
    let second = words_of N _ first.1 in
    let fourth = words_of d _ (words_of n _ second.1).1 in
    let fifth = words_of D _ fourth.1 in
    let recorded = recording_read (Lot label N n d D rec) t in
    let allowed = allowed_lot p f count label N n d D rec h in
    cc
entry_read p f count (Run h w rec) e t =
    ap₂ (λ (n : ℕ) (r : Recording). Run n w r) (words_of h _ t).0 (recording_read (Run h w rec) t)
entry_read p f count (Block q w rec) e t =
    ap₂ (λ (n : ℕ) (r : Recording). Block n w r) (words_of q _ t).0 (recording_read (Block q w rec) t)
entry_read p f count (Stop why days) e t = ap (λ (n : ℕ). Stop why n) (words_of days [] (words_of why (days ∷ []) t).1).0

-- the newest of the records is read where it stands
pub part_record : (e : Entry) (es : List Entry) (rest : List ℕ)
    → part (record_length * length es) record_length (records_of es ++ (record_bytes (record_of e) ++ rest)) ≡ record_bytes (record_of e)
unfolding part
part_record e es rest =
    rw (drop_at (records_of es) _ _ (length_records es)) (take_at (record_bytes (record_of e)) rest _ (length_record (record_of e)))

-- one record more is read behind those before it
next_read : (p : Plan) (bs : List ℕ) (n : ℕ) (e : Entry) (es : List Entry) → entries_in p bs n ≡ es
    → entry_of p (figures_of p es) (record_in (part (record_length * n) record_length bs)) ≡ e → entries_in p bs (suc n) ≡ e ∷ es
unfolding entries_in
next_read p bs n e es others newest = rw (others, newest)

pub entries_read : (p : Plan) (es : List Entry) (rest : List ℕ) → T (admissible p es)
    → entries_in p (records_of es ++ rest) (length es) ≡ es
unfolding entries_in records_of
entries_read p [] rest t = refl
entries_read p (e ∷ es) rest t =
    let newest = newest_of_lem p e es t in
    let others = entries_read p es (record_bytes (record_of e) ++ rest) newest.others in
    let whole = append_assoc (records_of es) (record_bytes (record_of e)) rest in
    next_read p _ (length es) e es
    (ap (λ (bs : List ℕ). entries_in p bs (length es)) whole ∙ others)
    (ap (λ (bs : List ℕ). entry_of p (figures_of p es) (record_in (part (record_length * length es) record_length bs))) whole
    ∙ ap (λ (bs : List ℕ). entry_of p (figures_of p es) (record_in bs)) (part_record e es rest)
    ∙ entry_read p (figures_of p es) (length es) e newest.allowed newest.words)

-- ---- the whole area

-- behind the header stand the records, and zeros
pub records_in_lem : (p : Plan) (es : List Entry) → length es ≤ most_records
    → part header_length (record_length * most_records) (area_of (opened p es))
    ≡ records_of es ++ zeros (record_length * (most_records - length es))
unfolding part area_of header_of bytes
records_in_lem p es h =
    take_all (record_length * most_records) (records_of es ++ zeros (record_length * (most_records - length es)))
    (simp (length-append, length_records, length-replicate) (omega arith))

kind_read : (p : Plan) (es : List Entry) → get_or (area_of (opened p es)) 0 0 ≡ p.kind
unfolding area_of header_of
kind_read p es = refl

opened_read : (p : Plan) (es : List Entry) → T (valid_plan p) → T (admissible p es)
    → station_in (area_of (opened p es)) ≡ opened p es
unfolding station_in
opened_read p es valid sound =
    let range = plan_range p valid in
    let known = ne_eqb p.kind 0 (omega arith) in
    let records = records_in_lem p es (count_within p es sound) in
    rw (kind_read p es, known, plan_read p es valid sound, count_read p es valid sound, records, entries_read p es _ sound)

pub station_read : (st : Station) → T (admissible_station st) → station_in (area_of st) ≡ st
unfolding station_in area_of admissible_station
station_read unopened t = refl
station_read (opened p es) t =
    let parts = both_of (valid_plan p) (admissible p es) t in
    opened_read p es parts.0 parts.1

-- the area of a station that calls can have left holds that station
pub reading_of_area : (st : Station) → T (admissible_station st) → reading (area_of st) ≡ holds st
unfolding reading
reading_of_area st t =
    let same = holds_of (same_bytes (area_of st) (area_of st)) (same_bytes_refl (area_of st)) in
    rw (station_read st t, same, holds_of (admissible_station st) t)

-- an area that holds a station is that station's, and calls can have left it
pub area_of_reading : (area : List ℕ) (st : Station) → reading area ≡ holds st → T (admissible_station st) × (area_of st ≡ area)
unfolding reading
area_of_reading area st h = go (same_bytes (area_of (station_in area)) area && admissible_station (station_in area)) refl
  where
    go : (sound : Bool) → same_bytes (area_of (station_in area)) area && admissible_station (station_in area) ≡ sound
        → T (admissible_station st) × (area_of st ≡ area)
    go false e =
        let never : unsound ≡ holds st = rw (reading, e) at h in
        let z : ◌≡◌ {A = ℕ} 0 1 = cc in
        absurd (omega arith)
    go true e =
        let held : holds (station_in area) ≡ holds st = rw (reading, e) at h in
        let same : station_in area ≡ st = cc in
        let parts = both_of (same_bytes (area_of st) area) (admissible_station st) (of_holds _ (rw same at e)) in
        (parts.1, same_bytes_eq (area_of st) area parts.0)
