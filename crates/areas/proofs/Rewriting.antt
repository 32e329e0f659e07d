-- What the writes of a call make of an area: one entry more, one entry less, a stream opened. An area is its header, its records and zeros;
-- a write over one of these leaves the others. Assumes nothing.
use Prim.Native.Nat.{ℕ, suc, ◌+◌, ◌-◌, ◌*◌, ◌<◌}
use mathlib.Core.Path.{◌≡◌, refl, sym, ◌∙◌}
use mathlib.Core.List.{List, [], ◌∷◌, ◌++◌, append_assoc}
use native.Mathlib.Numerals.{add-one}
use native.Mathlib.Omega.{arith}
use lib.ListN.{length, drop, length-append, replicate-append-replicate}
use lib.Seq.{take_at, drop_at, drop-drop}
use Rattle.little.specs.Little.{bytes, written}
use Rattle.little.proofs.Laws.{length_written}
use Rattle.model.specs.declared.Plan.{Plan}
use Rattle.model.specs.declared.Entry.{Entry}
use Rattle.model.specs.declared.Figures.{Figures}
use Rattle.model.specs.Sizes.{record_length, header_length, most_records, area_length}
use Rattle.model.specs.Stations.{unopened, opened}
use Rattle.model.specs.Figuring.{started, figures_of}
use Rattle.model.specs.Records.{record_bytes, record_of}
use Rattle.model.specs.Area.{zeros, header_of, records_of, area_of}
use Rattle.model.proofs.AreaReading.{length_record, length_records, length_header}
use Rattle.areas.specs.Written.{rewritten}

-- a write over x, between a and z
written_at : (at : ℕ) (a x z b : List ℕ) → length a ≡ at → length x ≡ length b → written at b (a ++ (x ++ z)) ≡ a ++ (b ++ z)
unfolding written
written_at at a x z b la lx =
    let behind : drop (at + length b) (a ++ (x ++ z)) ≡ z =
    rw (← drop-drop (length b) at, drop_at a (x ++ z) at la) (drop_at x z (length b) lx) in
    rw (take_at a (x ++ z) at la, behind)

-- the record x behind the header and the records s becomes r, then the header that of count n and figures g
rewritten_area : (p : Plan) (i m n : ℕ) (f g : Figures) (s x r z : List ℕ) → length s ≡ record_length * i → length x ≡ record_length
    → length r ≡ record_length → rewritten p i r n g (header_of p m f ++ (s ++ (x ++ z))) ≡ header_of p n g ++ (s ++ (r ++ z))
unfolding rewritten
rewritten_area p i m n f g s x r z ls lx lr =
    let header : List ℕ = header_of p m f in
    let before : length (header ++ s) ≡ header_length + record_length * i = simp (length-append, length_header) (omega arith) in
    let recorded = simp append_assoc at (written_at _ (header ++ s) x z r before (lx ∙ sym lr)) in
    rw recorded (written_at 0 [] header (s ++ (r ++ z)) (header_of p n g) refl (length_header p m f ∙ sym (length_header p n g)))

-- ---- an area stays as long as it is

pub length_headed : (p : Plan) (n : ℕ) (f : Figures) (area : List ℕ) → length area ≡ area_length
    → length (written 0 (header_of p n f) area) ≡ area_length
length_headed p n f area whole = length_written 0 (header_of p n f) area (omega (arith, length_header p n f)) ∙ whole

pub length_rewritten : (p : Plan) (i n : ℕ) (b : List ℕ) (g : Figures) (area : List ℕ) → i < most_records → length b ≡ record_length
    → length area ≡ area_length → length (rewritten p i b n g area) ≡ area_length
unfolding rewritten
length_rewritten p i n b g area room lb whole =
    length_headed p n g _ (length_written (header_length + record_length * i) b area (omega arith) ∙ whole)

-- what is unused behind n records
abbrev unused : ℕ → List ℕ
unused n = zeros (record_length * (most_records - n))

module _ (p : Plan) (e : Entry) (es : List Entry) (room : length es < most_records) where
  -- the area before the entry: the next record is 20 zeros
  area_before : area_of (opened p es)
      ≡ header_of p (length es) (figures_of p es) ++ (records_of es ++ (zeros record_length ++ unused (suc (length es))))
  unfolding area_of
  area_before =
      let more : record_length * (most_records - length es) ≡ record_length + record_length * (most_records - suc (length es)) =
      omega arith in
      rw (more, ← replicate-append-replicate record_length)

  -- and after it: the next record is the entry's
  area_after_lem : area_of (opened p (e ∷ es))
      ≡ header_of p (suc (length es)) (figures_of p (e ∷ es)) ++ (records_of es ++ (record_bytes (record_of e) ++ unused (suc (length es))))
  unfolding area_of records_of
  area_after_lem = rw append_assoc

  -- one entry more
  pub entered_area : rewritten p (length es) (record_bytes (record_of e)) (length es + 1) (figures_of p (e ∷ es)) (area_of (opened p es))
      ≡ area_of (opened p (e ∷ es))
  entered_area =
      rw (area_before, area_after_lem, add-one)
      (rewritten_area p _ _ _ _ _ (records_of es) (zeros record_length) (record_bytes (record_of e)) _ (length_records es) refl (length_record (record_of e)))

  -- the newest entry less
  pub taken_area : rewritten p (length es) (zeros record_length) (length es) (figures_of p es) (area_of (opened p (e ∷ es)))
      ≡ area_of (opened p es)
  taken_area =
      rw (area_before, area_after_lem)
      (rewritten_area p _ _ _ _ _ (records_of es) (record_bytes (record_of e)) (zeros record_length) _ (length_records es) (length_record (record_of e)) refl)

-- a stream is opened: the header over an area of zeros
pub opened_area : (p : Plan) → written 0 (header_of p 0 (started p)) (area_of unopened) ≡ area_of (opened p [])
unfolding written area_of header_of bytes records_of figures_of
opened_area p = refl
