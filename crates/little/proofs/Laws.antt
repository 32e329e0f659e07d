-- The laws of `specs/Little.antt`: a number and its bytes, a part of a list, and what a write changes.
-- Assumes nothing.
use mathlib.Core.Path.{◌≡◌, refl, sym, ap, ◌∙◌}
use mathlib.Core.Logic.{◌⊎◌, inl, inr}
use mathlib.Core.List.{List, [], ◌∷◌, ◌++◌, append_assoc}
use Prim.Native.Nat.{ℕ, zero, suc, ◌+◌, ◌-◌, ◌*◌, ◌/◌, ◌%◌, ◌^◌, ◌≤◌, ◌<◌}
use native.Mathlib.Nat.{add-zero, add_assoc, pow-suc, mod-add-div}
use native.Mathlib.Numerals.{add-one}
use native.Mathlib.Omega.{arith}
use lib.Dec.{lit<}
use lib.ListN.{length, take, drop, get_or, set, length-append, length-take, length-drop, take-append-drop}
use lib.Seq.{take-suc, drop-cons, length-take-le, take_at, drop_at, take-append_seam, set_split, drop-drop, get_or-take, get_or-drop, ext_get_or}
use mir.Syntax.{w8}
use mir.Val.{Fits}
use Rattle.little.specs.Little.{bytes, value, part, written, AreBytes}

-- ---- a number and its bytes

pub length_bytes : (k n : ℕ) → length (bytes k n) ≡ k
unfolding bytes
length_bytes zero n = refl
length_bytes (suc k) n = ap suc (length_bytes k (n / 256))

-- the bytes of a number that they have room for hold it
pub value_bytes : (k : ℕ) {n : ℕ} → n < 256 ^ k → value (bytes k n) ≡ n
unfolding bytes value
value_bytes zero h = omega arith
value_bytes (suc k) {n} h = rw (value_bytes k {n = n / 256} (omega (arith, pow-suc 256 k))) (mod-add-div n 256)

pub value_range : (s : List ℕ) → AreBytes s → value s < 256 ^ length s
unfolding value
value_range [] h = lit< tt
value_range (b ∷ s) h = omega (arith, pow-suc 256 (length s), h 0, value_range s (λ i. h (suc i)))

-- the bytes of the number that a list of bytes holds are that list
pub bytes_value : (s : List ℕ) → AreBytes s → bytes (length s) (value s) ≡ s
unfolding bytes value
bytes_value [] h = refl
bytes_value (b ∷ s) h =
    let low : (b + 256 * value s) % 256 ≡ b = omega (arith, h 0) in
    let high : (b + 256 * value s) / 256 ≡ value s = omega (arith, h 0) in
    rw (low, high, bytes_value s (λ i. h (suc i)))

-- what a slice holds are bytes
pub slice_bytes : (s : List ℕ) → ((i : ℕ) → Fits w8 (get_or s i 0)) → AreBytes s
slice_bytes s known i = (known i).fits

-- ---- a part of a list, and a write to one

pub length_part : (at k : ℕ) (s : List ℕ) → at + k ≤ length s → length (part at k s) ≡ k
unfolding part
length_part at k s h = simp (length-take, length-drop) (omega arith)

-- one element more
pub part_next : (at k : ℕ) (s : List ℕ) → at + k < length s → part at (suc k) s ≡ part at k s ++ (get_or s (at + k) 0 ∷ [])
unfolding part
part_next at k s h = rw (take-suc (drop at s) k 0 (simp length-drop (omega arith)), get_or-drop at s k 0)

-- the number in a part: its first byte, and 256 times the rest
value_first : (at k next : ℕ) (s : List ℕ) → at < length s → next ≡ at + 1
    → value (part at (suc k) s) ≡ get_or s at 0 + 256 * value (part next k s)
unfolding value part
value_first at k next s h e = rw (e, drop-cons s at 0 h, add-one at)

value_none : (at : ℕ) (s : List ℕ) → value (part at 0 s) ≡ 0
unfolding value part
value_none at s = refl

-- it is the sum of its bytes, each at its weight
module _ (at : ℕ) (s : List ℕ) where
  pub value_two : at + 2 ≤ length s → get_or s at 0 + get_or s (at + 1) 0 * 256 ≡ value (part at 2 s)
  value_two h =
      omega (
        arith,
        value_first at 1 (at + 1) s (omega arith) (omega arith),
        value_first (at + 1) 0 (at + 2) s (omega arith) (omega arith),
        value_none (at + 2) s,
      )

  pub value_four : at + 4 ≤ length s
      → get_or s at 0 + get_or s (at + 1) 0 * 256 + get_or s (at + 2) 0 * 65536 + get_or s (at + 3) 0 * 16777216 ≡ value (part at 4 s)
  value_four h =
      omega (
        arith,
        value_first at 3 (at + 1) s (omega arith) (omega arith),
        value_first (at + 1) 2 (at + 2) s (omega arith) (omega arith),
        value_first (at + 2) 1 (at + 3) s (omega arith) (omega arith),
        value_first (at + 3) 0 (at + 4) s (omega arith) (omega arith),
        value_none (at + 4) s,
      )

  pub value_eight : at + 8 ≤ length s
      → get_or s at 0 + get_or s (at + 1) 0 * 256 + get_or s (at + 2) 0 * 65536 + get_or s (at + 3) 0 * 16777216
      + get_or s (at + 4) 0 * 4294967296 + get_or s (at + 5) 0 * 1099511627776 + get_or s (at + 6) 0 * 281474976710656
      + get_or s (at + 7) 0 * 72057594037927936 ≡ value (part at 8 s)
  value_eight h =
      omega (
        arith,
        value_first at 7 (at + 1) s (omega arith) (omega arith),
        value_first (at + 1) 6 (at + 2) s (omega arith) (omega arith),
        value_first (at + 2) 5 (at + 3) s (omega arith) (omega arith),
        value_first (at + 3) 4 (at + 4) s (omega arith) (omega arith),
        value_first (at + 4) 3 (at + 5) s (omega arith) (omega arith),
        value_first (at + 5) 2 (at + 6) s (omega arith) (omega arith),
        value_first (at + 6) 1 (at + 7) s (omega arith) (omega arith),
        value_first (at + 7) 0 (at + 8) s (omega arith) (omega arith),
        value_none (at + 8) s,
      )

-- two lists as long that agree from index `at` up to at + k have the same part there
part_ext : (at k : ℕ) (s t : List ℕ) → length s ≡ length t → ((i : ℕ) → at ≤ i → i < at + k → get_or s i 0 ≡ get_or t i 0) → part at k s ≡ part at k t
unfolding part
part_ext at k s t e h =
    ext_get_or 0 _ _ (simp (length-take, length-drop, e))
    (λ i l.
    let l' : i < k = omega (arith, simp (length-take) at l) in
    rw (get_or-take k (drop at s) i 0 l', get_or-take k (drop at t) i 0 l', get_or-drop at s, get_or-drop at t) (h (at + i) (omega arith) (omega arith)))

module _ (at : ℕ) (b s : List ℕ) (fits : at + length b ≤ length s) where
  pub length_written : length (written at b s) ≡ length s
  unfolding written
  length_written = simp (length-append, length-take, length-drop) (omega arith)

  length_head : length (take at s ++ b) ≡ at + length b
  length_head = simp (length-append, length-take) (omega arith)

  -- up to the written bytes the list is as it was
  pub take_written : take at (written at b s) ≡ take at s
  unfolding written
  take_written = take_at (take at s) _ at (length-take-le at s (omega arith))

  -- up to their end it is that and the written bytes
  take_through : take (at + length b) (written at b s) ≡ take at s ++ b
  unfolding written
  take_through = rw (← append_assoc) (take_at (take at s ++ b) _ _ length_head)

  -- and from their end on it is as it was
  pub drop_written : drop (at + length b) (written at b s) ≡ drop (at + length b) s
  unfolding written
  drop_written = rw (← append_assoc) (drop_at (take at s ++ b) _ _ length_head)

  -- what was written is read
  pub part_written : part at (length b) (written at b s) ≡ b
  unfolding part written
  part_written = rw (drop_at (take at s) _ at (length-take-le at s (omega arith))) (take-append_seam b _)

  -- every other byte stays
  pub written_elsewhere : (i : ℕ) → (i < at) ⊎ (at + length b ≤ i) → get_or (written at b s) i 0 ≡ get_or s i 0
  written_elsewhere i (inl h) = sym (get_or-take at _ i 0 h) ∙ ap (λ (l : List ℕ). get_or l i 0) take_written ∙ get_or-take at s i 0 h
  written_elsewhere i (inr h) =
      let e : i ≡ at + length b + (i - (at + length b)) = omega arith in
      rw (e, ← get_or-drop _ (written at b s), ← get_or-drop _ s, drop_written)

  -- a part that does not meet the written bytes stays
  pub part_written_elsewhere : (j k : ℕ) → (j + k ≤ at) ⊎ (at + length b ≤ j) → part j k (written at b s) ≡ part j k s
  part_written_elsewhere j k (inl h) = part_ext j k _ s length_written (λ i from to. written_elsewhere i (inl (omega arith)))
  part_written_elsewhere j k (inr h) = part_ext j k _ s length_written (λ i from to. written_elsewhere i (inr (omega arith)))

-- a write of no bytes changes nothing
pub written_nil : (at : ℕ) (s : List ℕ) → written at [] s ≡ s
unfolding written
written_nil at s = rw add-zero (take-append-drop at s)

-- a store is a write of one byte
pub set_written : (at b : ℕ) (s : List ℕ) → at < length s → set s at b ≡ written at (b ∷ []) s
unfolding written
set_written at b s h = rw add-one (set_split s at b h)

-- two neighbouring writes are one
pub written_next : (at : ℕ) (a b s : List ℕ) → at + length a + length b ≤ length s → written (at + length a) b (written at a s) ≡ written at (a ++ b) s
unfolding written
written_next at a b s h =
    let fits : at + length a ≤ length s = omega arith in
    let after : drop (at + length a + length b) (written at a s) ≡ drop (at + length a + length b) s =
    sym (drop-drop (length b) _ (written at a s)) ∙ ap (drop (length b)) (drop_written at a s fits) ∙ drop-drop (length b) _ s in
    rw (take_through at a s fits, after) (simp (length-append, append_assoc, add_assoc))

-- a write, and one behind it
pub then_written : (at : ℕ) {next : ℕ} (a b : List ℕ) (s : List ℕ) {t u : List ℕ} → t ≡ written at a s → u ≡ written next b t → next ≡ at + length a → next + length b ≤ length s → u ≡ written at (a ++ b) s
then_written at a b s p q e fits = q ∙ rw (p, e) (written_next at a b s (omega arith))

-- a list that a write gave is as long as before
pub length_after : (at : ℕ) (b s : List ℕ) {t : List ℕ} → t ≡ written at b s → at + length b ≤ length s → length t ≡ length s
length_after at b s e fits = rw e (length_written at b s fits)

-- a write, and a store behind it
pub then_set : (at : ℕ) {next : ℕ} (a : List ℕ) (x : ℕ) (s : List ℕ) {t : List ℕ} → t ≡ written at a s → next ≡ at + length a → next < length s → set t next x ≡ written at (a ++ (x ∷ [])) s
then_set at {next} a x s {t} p e h =
    then_written at a (x ∷ []) s p (set_written next x t (omega (arith, length_after at a s p (omega arith)))) e (omega arith)

pub get_d_part : (at k : ℕ) (s : List ℕ) (i : ℕ) → i < k → get_or (part at k s) i 0 ≡ get_or s (at + i) 0
unfolding part
get_d_part at k s i h = rw (get_or-take k (drop at s) i 0 h, get_or-drop at s i 0)

-- no byte stands past a part's end
length_part_le : (at k : ℕ) (s : List ℕ) → length (part at k s) ≤ k
unfolding part
length_part_le at k s = rw length-take (omega arith)

length_part_part : (at m j k : ℕ) (s : List ℕ) → j + k ≤ m → length (part j k (part at m s)) ≡ length (part (at + j) k s)
unfolding part
length_part_part at m j k s h = simp (length-take, length-drop) (omega arith)

-- a part of a part
pub part_part : (at m j k : ℕ) (s : List ℕ) → j + k ≤ m → part j k (part at m s) ≡ part (at + j) k s
part_part at m j k s h =
    ext_get_or 0 _ _ (length_part_part at m j k s h)
    (λ i l.
    let l' : i < k = omega (arith, length_part_le j k (part at m s)) in
    rw (get_d_part j k (part at m s) i l', get_d_part at m s (j + i) (omega arith), get_d_part (at + j) k s i l', add_assoc))

-- a part, and what stands behind it
pub part_and_rest : (at k : ℕ) (s : List ℕ) → part at k s ++ drop (at + k) s ≡ drop at s
unfolding part
part_and_rest at k s = rw (← drop-drop k at s) (take-append-drop k (drop at s))

-- writing what stands there changes nothing
pub written_same : (at k : ℕ) (s : List ℕ) → at + k ≤ length s → written at (part at k s) s ≡ s
unfolding written
written_same at k s fits = rw (length_part at k s fits, part_and_rest at k s) (take-append-drop at s)
