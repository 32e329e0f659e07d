-- Parts of a list of bytes and what they hold, and tests that decide a statement.
-- Assumes nothing.
use mathlib.Core.Path.{◌≡◌, refl, sym, ap, ◌∙◌}
use mathlib.Core.Bool.{Bool, false, ◌&&◌}
use mathlib.Core.List.{List, [], ◌∷◌, ◌++◌}
use Prim.Native.Nat.{ℕ, zero, suc, ◌+◌, ◌*◌, ◌^◌, ◌≤◌, ◌<◌}
use native.Mathlib.Nat.{add-zero}
use native.Mathlib.Omega.{arith}
use lib.Dec.{T, eqb, lit<, lit≤}
use lib.ListN.{length, drop, get_or, length-append}
use lib.Seq.{drop-cons, drop-drop, take-add, take_at, drop_at, take_all}
use borrow.Author.Tests.{eqb-true, eq-eqb}
use Rattle.little.specs.Little.{bytes, value, part, written, AreBytes}
use Rattle.little.proofs.Laws.{length_bytes, value_bytes, value_range, bytes_value, length_part, get_d_part, part_part}
use Rattle.model.specs.Sizes.{record_length, header_length, most_records}
use Rattle.model.specs.declared.Plan.{Plan}
use Rattle.model.specs.declared.Record.{Record}
use Rattle.model.specs.declared.Recording.{Recording}
use Rattle.model.specs.Stations.{valid_plan}
use Rattle.model.specs.Area.{zeros}
use Rattle.model.specs.Records.{byte, recording_bytes, record_bytes, recording_in, record_in, no_recording, with_one}
use Rattle.model.proofs.Allowed.{plan_range}
use Rattle.model.proofs.Booleans.{both_true, never_both}
use Rattle.records.specs.Records.{record_at, PlanFits, Decides}

-- ---- parts

-- the elements of a part of bytes are bytes
pub part_bytes : (at k : ℕ) (s : List ℕ) → AreBytes s → AreBytes (part at k s)
unfolding part
part_bytes at zero s h i = lit< tt
part_bytes zero (suc k) [] h i = lit< tt
part_bytes zero (suc k) (x ∷ s) h zero = h 0
part_bytes zero (suc k) (x ∷ s) h (suc i) = part_bytes zero k s (λ j. h (suc j)) i
part_bytes (suc at) (suc k) [] h i = lit< tt
part_bytes (suc at) (suc k) (x ∷ s) h i = part_bytes at (suc k) s (λ j. h (suc j)) i

-- the number in a part of k bytes
pub value_within : (at k : ℕ) (s : List ℕ) → AreBytes s → at + k ≤ length s → value (part at k s) < 256 ^ k
value_within at k s h fits = rw (length_part at k s fits) at (value_range (part at k s) (part_bytes at k s h))

-- bytes that hold a number are the number's bytes
pub part_of_value : (at k n : ℕ) (s : List ℕ) → AreBytes s → at + k ≤ length s → value (part at k s) ≡ n → part at k s ≡ bytes k n
part_of_value at k n s h fits e =
    sym (rw (length_part at k s fits) at (bytes_value (part at k s) (part_bytes at k s h))) ∙ ap (bytes k) e

-- a part of one byte
pub part_of_byte : (at n : ℕ) (s : List ℕ) → at < length s → get_or s at 0 ≡ n → part at 1 s ≡ n ∷ []
unfolding part
part_of_byte at n s h e = rw (drop-cons s at 0 h, e)

-- the two parts of a list
part_front : (a b : List ℕ) → part 0 (length a) (a ++ b) ≡ a
unfolding part
part_front a b = take_at a b _ refl

part_back : (a b : List ℕ) → part (length a) (length b) (a ++ b) ≡ b
unfolding part
part_back a b = rw (drop_at a b _ refl) (take_all (length b) b (omega arith))

-- two neighbouring parts are one
pub part_join : (at j k : ℕ) {next : ℕ} (a b s : List ℕ) → part at j s ≡ a → next ≡ at + j → part next k s ≡ b → part at (j + k) s ≡ a ++ b
unfolding part
part_join at j k a b s p e q = rw (take-add j k (drop at s), drop-drop j at s, ← e, p, q)

-- ---- records

-- an area's i-th record as a part of the area
pub record_at_lem : (area : List ℕ) (i : ℕ) → i < most_records → record_at area i ≡ part (header_length + record_length * i) record_length area
unfolding record_at
record_at_lem area i h = part_part header_length (record_length * most_records) (record_length * i) record_length area (omega arith)

-- the numbers in a record, each where it stands in the area
pub record_read : (area : List ℕ) (at : ℕ) → record_in (part at record_length area) ≡ record {
  kind = get_or area at 0;
  flag = get_or area (at + 1) 0;
  spare = value (part (at + 2) 2 area);
  a = value (part (at + 4) 4 area);
  b = value (part (at + 8) 4 area);
  c = value (part (at + 12) 4 area);
  d = value (part (at + 16) 4 area);
  recording = recording_in (part (at + 20) 8 area);
}
unfolding record_in
record_read area at =
    rw (
      get_d_part at record_length area 0 (lit< tt),
      add-zero,
      get_d_part at record_length area 1 (lit< tt),
      part_part at record_length 2 2 area (lit≤ tt),
      part_part at record_length 4 4 area (lit≤ tt),
      part_part at record_length 8 4 area (lit≤ tt),
      part_part at record_length 12 4 area (lit≤ tt),
      part_part at record_length 16 4 area (lit≤ tt),
      part_part at record_length 20 8 area (lit≤ tt),
    )

-- the same of a recording
pub recording_read : (area : List ℕ) (at : ℕ) → recording_in (part at 8 area) ≡ record {
  number = value (part at 4 area);
  second = value (part (at + 4) 4 area);
}
unfolding recording_in
recording_read area at = rw (part_part at 8 0 4 area (lit≤ tt), add-zero, part_part at 8 4 4 area (lit≤ tt))

-- a record of zeros, written
pub cleared : (at : ℕ) (none : Recording) (left : Record) (area then : List ℕ) → none ≡ no_recording → left ≡ with_one 0 0 0 none
    → then ≡ written at (record_bytes left) area → then ≡ written at (zeros record_length) area
unfolding record_bytes recording_bytes bytes
cleared at none left area then bare is wrote = wrote ∙ rw (is, bare)

-- ---- the header

-- the numbers of a valid plan, and a count of records, fit their bytes
pub plan_fits : (p : Plan) (count : ℕ) → T (valid_plan p) → count ≤ most_records → PlanFits p count
plan_fits p count valid room =
    let range = plan_range p valid in
    record { kinds = omega arith; options = omega arith; intervals = omega arith; counts = omega arith }

-- ---- tests

-- an answer that is no, of what does not hold
pub refuted : {P : Type 0} → (P → ⊥) → Decides false P
refuted nay = record { shows = λ e. absurd (never_both false e refl); shown = λ p. absurd (nay p) }

-- what was decided not to hold does not
pub decided_not : {b : Bool} {P : Type 0} → Decides b P → b ≡ false → P → ⊥
decided_not {b} d e p = never_both b (d.shown p) e

-- a test of whether the bytes of s from `at` on are u
pub record Compares (b : Bool) (s : List ℕ) (at : ℕ) (u : List ℕ) : Type 0 where
  pub decides : Decides b (part at (length u) s ≡ u)

-- of a number's bytes
pub number_compares : {x : ℕ} (at k n : ℕ) (s : List ℕ) → AreBytes s → at + k ≤ length s → n < 256 ^ k → x ≡ value (part at k s)
    → Compares (eqb x n) s at (bytes k n)
number_compares {x} at k n s h fits room is =
    record {
      decides =
          rw length_bytes
          (record {
            shows = λ e. part_of_value at k n s h fits (sym is ∙ eqb-true x n e);
            shown = λ e. eq-eqb x n (is ∙ ap value e ∙ value_bytes k room);
          });
    }

-- of one byte
pub byte_compares : {x : ℕ} (at n : ℕ) (s : List ℕ) → at < length s → x ≡ get_or s at 0 → Compares (eqb x n) s at (byte n)
byte_compares {x} at n s h is =
    let first : get_or (part at 1 s) 0 0 ≡ get_or s at 0 = get_d_part at 1 s 0 (lit< tt) ∙ rw add-zero in
    record {
      decides =
          record {
            shows = λ e. part_of_byte at n s h (sym is ∙ eqb-true x n e);
            shown = λ e. eq-eqb x n (is ∙ sym first ∙ ap (λ (l : List ℕ). get_or l 0 0) e);
          };
    }

-- of neighbouring bytes: both tests pass
pub both_compare : {a b : Bool} {s u v : List ℕ} {at next : ℕ} → Compares a s at u → Compares b s next v → next ≡ at + length u
    → Compares (a && b) s at (u ++ v)
both_compare {a} {b} {s} {u} {v} {at} {next} first second e =
    let j : ℕ = length u in
    let k : ℕ = length v in
    record {
      decides =
          rw length-append
          (record {
            shows =
                λ t.
                let both = both_true a b t in
                part_join at j k u v s (first.decides.shows both.0) e (second.decides.shows both.1);
            shown =
                λ t.
                let front = sym (part_part at (j + k) 0 j s (omega arith)) ∙ ap (part 0 j) t ∙ part_front u v in
                let back = sym (part_part at (j + k) j k s (omega arith)) ∙ ap (part j k) t ∙ part_back u v in
                rw (first.decides.shown (rw add-zero at front), second.decides.shown (rw e back));
          });
    }

-- where one part is another, the whole is: by a test that failed, a number, a byte
pub part_differs : (at j k : ℕ) (s w : List ℕ) → j + k ≤ length w → (part (at + j) k s ≡ part j k w → ⊥) → Decides false (part at (length w) s ≡ w)
part_differs at j k s w h nay = refuted (λ e. nay (sym (part_part at (length w) j k s h) ∙ ap (part j k) e))

pub number_differs : {x : ℕ} (at j k n : ℕ) (s w : List ℕ) → j + k ≤ length w → part j k w ≡ bytes k n → n < 256 ^ k
    → x ≡ value (part (at + j) k s) → (x ≡ n → ⊥) → Decides false (part at (length w) s ≡ w)
number_differs at j k n s w h is room read other =
    part_differs at j k s w h (λ e. other (read ∙ ap value (e ∙ is) ∙ value_bytes k room))

pub byte_differs : {x : ℕ} (at j n : ℕ) (s w : List ℕ) → j < length w → get_or w j 0 ≡ n → x ≡ get_or s (at + j) 0 → (x ≡ n → ⊥)
    → Decides false (part at (length w) s ≡ w)
byte_differs at j n s w h is read other =
    refuted (λ e. other (read ∙ sym (get_d_part at (length w) s j h) ∙ ap (λ (l : List ℕ). get_or l j 0) e ∙ is))
