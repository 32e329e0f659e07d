-- A record, its bytes and the entry in it: each gives the others back, and the entry's arguments are 32-bit numbers. Assumes nothing.
use Prim.Native.Nat.{ℕ, ◌+◌, ◌^◌, ◌≤◌, ◌<◌}
use mathlib.Core.Path.{◌≡◌, refl, sym, ap, ◌∙◌}
use mathlib.Core.Bool.{Bool, true, false, cond, ◌&&◌, ◌||◌}
use mathlib.Core.List.{List, [], ◌∷◌}
use native.Mathlib.Omega.{arith}
use lib.Dec.{T, eqb}
use lib.ListN.{length, get_or}
use lib.Seq.{take_all}
use borrow.Author.Tests.{eqb-true}
use Rattle.little.specs.Little.{bytes, value, part, AreBytes}
use Rattle.plans.proofs.Booleans.{either}
use Rattle.rules.proofs.Counts.{sample_at_most}
use Rattle.model.specs.declared.Plan.{Plan}
use Rattle.model.specs.declared.Entry.{Entry}
use Rattle.model.specs.declared.Entry.TheVariants.{Lot, Run, Block, Stop}
use Rattle.model.specs.declared.Figures.{Figures}
use Rattle.model.specs.declared.Record.{Record}
use Rattle.model.specs.Sizes.{record_length}
use Rattle.model.specs.Stations.{entry_arguments, all_words}
use Rattle.model.specs.Records.{lot_kind, run_kind, block_kind, stop_kind, no_recording, recording_bytes, record_bytes, recording_in, record_in, record_of, entry_of}
use Rattle.model.proofs.Booleans.{both_true, no_words, word_and}
use Rattle.little.proofs.Laws.{length_part}
use Rattle.records.proofs.Laws.{part_bytes, value_within, part_of_value, part_of_byte, part_join}
use Rattle.replaying.specs.Replaying.{one_number, unrecorded, well_formed}

-- a whole list as a part
part_all : (k : ℕ) (s : List ℕ) → length s ≡ k → part 0 k s ≡ s
unfolding part
part_all k s l = take_all k s (omega arith)

-- bytes are those of the number that they hold
part_is_bytes : (at k : ℕ) (s : List ℕ) → AreBytes s → at + k ≤ length s → part at k s ≡ bytes k (value (part at k s))
part_is_bytes at k s h fits = part_of_value at k _ s h fits refl

-- what the bytes of a recording, and of a record, say has these bytes
recording_bytes_lem : (r : List ℕ) → length r ≡ 8 → AreBytes r → recording_bytes (recording_in r) ≡ r
unfolding recording_in recording_bytes
recording_bytes_lem r l h =
    sym (part_join 0 4 4 _ _ r (part_is_bytes 0 4 r h (omega arith)) refl (part_is_bytes 4 4 r h (omega arith))) ∙ part_all 8 r l

record_bytes_lem : (r : List ℕ) → length r ≡ record_length → AreBytes r → record_bytes (record_in r) ≡ r
unfolding record_in record_bytes
record_bytes_lem r l h =
    let flag = part_join 0 1 1 _ _ r (part_of_byte 0 _ r (omega arith) refl) refl (part_of_byte 1 _ r (omega arith) refl) in
    let spare = part_join 0 2 2 _ _ r flag refl (part_is_bytes 2 2 r h (omega arith)) in
    let a = part_join 0 4 4 _ _ r spare refl (part_is_bytes 4 4 r h (omega arith)) in
    let b = part_join 0 8 4 _ _ r a refl (part_is_bytes 8 4 r h (omega arith)) in
    let c = part_join 0 12 4 _ _ r b refl (part_is_bytes 12 4 r h (omega arith)) in
    let d = part_join 0 16 4 _ _ r c refl (part_is_bytes 16 4 r h (omega arith)) in
    let recording = sym (recording_bytes_lem (part 20 8 r) (length_part 20 8 r (omega arith)) (part_bytes 20 8 r h)) in
    sym (part_join 0 20 8 _ _ r d refl recording) ∙ part_all record_length r l

-- a well-formed record is that of the entry in it
entry_record : (p : Plan) (f : Figures) (x : Record) → well_formed x ≡ true → record_of (entry_of p f x) ≡ x
unfolding well_formed entry_of record_of
entry_record p f x e = go (eqb x.kind lot_kind) (eqb x.kind run_kind) (eqb x.kind block_kind) refl refl refl
  where
    spare : x.spare ≡ 0
    spare = eqb-true x.spare 0 (both_true (eqb x.spare 0) _ e).0

    known : Bool
    known = eqb x.kind run_kind || eqb x.kind block_kind || eqb x.kind stop_kind && unrecorded x

    form : cond (eqb x.kind lot_kind) (eqb x.flag 0) (known && one_number x) ≡ true
    form = (both_true (eqb x.spare 0) _ e).1

    -- of another kind than a lot
    plain : eqb x.kind lot_kind ≡ false → (known ≡ true) × (x.b ≡ 0) × (x.c ≡ 0) × (x.d ≡ 0)
    plain i =
        let both = both_true known (one_number x) (rw i at form) in
        let all = both_true (eqb x.b 0 && eqb x.c 0) (eqb x.d 0) both.1 in
        let two = both_true (eqb x.b 0) (eqb x.c 0) all.0 in
        (both.0, eqb-true x.b 0 two.0, eqb-true x.c 0 two.1, eqb-true x.d 0 all.1)

    go : (one two three : Bool) → eqb x.kind lot_kind ≡ one → eqb x.kind run_kind ≡ two → eqb x.kind block_kind ≡ three
        → record_of (entry_of p f x)
        ≡ record { kind = x.kind; flag = x.flag; spare = x.spare; a = x.a; b = x.b; c = x.c; d = x.d; recording = x.recording }
    go true two three i j k = rw (entry_of, record_of, i) (cc (spare, eqb-true x.kind lot_kind i, eqb-true x.flag 0 (rw i at form)))
    go false true three i j k = let y = plain i in rw (entry_of, record_of, i, j) (cc (spare, eqb-true x.kind run_kind j))
    go false false true i j k = let y = plain i in rw (entry_of, record_of, i, j, k) (cc (spare, eqb-true x.kind block_kind k))
    go false false false i j k =
        let y = plain i in
        let stop = both_true (eqb x.kind stop_kind) (unrecorded x) (rw (j, k) at y.0) in
        let bare = both_true (eqb x.recording.number 0) (eqb x.recording.second 0) stop.1 in
        let none : x.recording ≡ no_recording = λ n. record { number = eqb-true x.recording.number 0 bare.0 n; second = eqb-true x.recording.second 0 bare.1 n } in
        rw (entry_of, record_of, i, j, k) (cc (spare, none, eqb-true x.kind stop_kind stop.0))

-- well-formed bytes are those of their entry
pub record_of_lem : (p : Plan) (f : Figures) (r : List ℕ) → length r ≡ record_length → AreBytes r → well_formed (record_in r) ≡ true
    → record_bytes (record_of (entry_of p f (record_in r))) ≡ r
record_of_lem p f r l h e = ap record_bytes (entry_record p f (record_in r) e) ∙ record_bytes_lem r l h

-- the record of an entry is well-formed
pub formed_of : (e : Entry) → well_formed (record_in (record_bytes (record_of e))) ≡ true
unfolding well_formed recording_in record_in record_of recording_bytes record_bytes bytes value part
formed_of (Lot label N n d D rec) = refl
formed_of (Run h w rec) = refl
formed_of (Block q w rec) = refl
formed_of (Stop why days) = refl

-- ---- the arguments

-- a recording's numbers, and all arguments that a record holds, are 32-bit numbers
recording_words : (r : List ℕ) → length r ≡ record_length → AreBytes r
    → T (all_words ((record_in r).recording.number ∷ (record_in r).recording.second ∷ []))
unfolding recording_in record_in
recording_words r l h =
    let size = length_part 20 8 r (omega arith) in
    let are-bytes = part_bytes 20 8 r h in
    let number = value_within 0 4 (part 20 8 r) are-bytes (omega arith) in
    let second = value_within 4 4 (part 20 8 r) are-bytes (omega arith) in
    word_and _ _ number (word_and _ _ second no_words)

pub words_of : (p : Plan) (f : Figures) (r : List ℕ) → length r ≡ record_length → AreBytes r
    → T (all_words (entry_arguments (entry_of p f (record_in r))))
unfolding entry_of recording_in record_in entry_arguments
words_of p f r l h =
    let flag : get_or r 1 0 < 2 ^ 32 = omega (arith, h 1) in
    let a = value_within 4 4 r h (omega arith) in
    let b = value_within 8 4 r h (omega arith) in
    let c = value_within 12 4 r h (omega arith) in
    let d = value_within 16 4 r h (omega arith) in
    let n = sample_at_most p f (value (part 8 4 r)) in
    let recording = recording_words r l h in
    either Words (eqb (get_or r 0 0) lot_kind)
    (word_and _ _ a (word_and _ _ b (word_and _ _ (omega arith) (word_and _ _ c (word_and _ _ d recording)))))
    (either Words (eqb (get_or r 0 0) run_kind) (word_and _ _ a (word_and _ _ flag recording))
    (either Words (eqb (get_or r 0 0) block_kind) (word_and _ _ a (word_and _ _ flag recording)) (word_and _ _ flag (word_and _ _ a no_words))))
  where
    Words : Entry → Type 0
    Words e = T (all_words (entry_arguments e))
