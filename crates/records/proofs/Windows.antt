-- A list cut into windows of one length and a rest is zero exactly where each of them is. Assumes nothing.
use Prim.Native.Nat.{ℕ, zero, suc, ◌+◌, ◌-◌, ◌*◌, ◌/◌, ◌≤◌, ◌<◌}
use mathlib.Core.Path.{◌≡◌, sym, ap, subst, ◌∙◌}
use mathlib.Core.Bool.{Bool, false}
use mathlib.Core.List.{List, [], ◌++◌}
use native.Mathlib.Nat.{zero-mul, suc-mul, add_comm, div-mul-le_self}
use native.Mathlib.Omega.{arith}
use lib.ListN.{length, take, drop, get_or, take-append-drop, length-drop, length-replicate}
use lib.Seq.{drop-drop}
use Rattle.std.proofs.lemmas.List.{take-replicate, drop-replicate, replicate-append-replicate}
use Rattle.std.specs.Simd.{first_chunks}
use Rattle.model.specs.Area.{zeros}
use Rattle.records.specs.Records.{Decides}
use Rattle.records.proofs.Laws.{refuted}

abbrev pub IsZero : List ℕ → Type 0
IsZero s = s ≡ zeros (length s)

zero_by : (k : ℕ) {s : List ℕ} → s ≡ zeros k → IsZero s
zero_by k {s} e = e ∙ ap zeros (sym (ap length e ∙ length-replicate k 0))

zero_front : (n : ℕ) (s : List ℕ) → n ≤ length s → IsZero s → IsZero (take n s)
zero_front n s h e = zero_by n (ap (take n) e ∙ take-replicate n (length s) 0 h)

zero_rest : (n : ℕ) (s : List ℕ) → IsZero s → IsZero (drop n s)
zero_rest n s e = zero_by _ (ap (drop n) e ∙ drop-replicate n (length s) 0)

zero_joined : (a b : List ℕ) → IsZero a → IsZero b → IsZero (a ++ b)
zero_joined a b p q =
    zero_by (length a + length b)
    (ap (λ (x : List ℕ). x ++ b) p ∙ ap (λ (y : List ℕ). zeros (length a) ++ y) q ∙ replicate-append-replicate (length a) (length b) 0)

-- the i-th of k windows of n bytes
abbrev window : ℕ → ℕ → List ℕ → ℕ → List ℕ
window n k s i = get_or (first_chunks n k s) i []

zero_windows : (n k : ℕ) (s : List ℕ) (i : ℕ) → i < k → k * n ≤ length s → IsZero s → IsZero (window n k s i)
zero_windows n zero s i h fits e = absurd (omega arith)
zero_windows n (suc k) s zero h fits e = zero_front n s (omega (arith, suc-mul k n)) e
zero_windows n (suc k) s (suc i) h fits e =
    zero_windows n k (drop n s) i (omega arith) (omega (arith, suc-mul k n, length-drop n s)) (zero_rest n s e)

windows_zero : (n k : ℕ) (s : List ℕ) → ((i : ℕ) → i < k → IsZero (window n k s i)) → IsZero (drop (k * n) s) → IsZero s
windows_zero n zero s each rest = rw (zero-mul n) at rest
windows_zero n (suc k) s each rest =
    let behind : drop (suc k * n) s ≡ drop (k * n) (drop n s) = rw (suc-mul k n, add_comm (k * n) n) (sym (drop-drop (k * n) n s)) in
    let back : IsZero (drop n s) = windows_zero n k (drop n s) (λ i h. each (suc i) (omega arith)) (subst IsZero behind rest) in
    subst IsZero (take-append-drop n s) (zero_joined (take n s) (drop n s) (each 0 (omega arith)) back)

-- the end of an area, by its windows of n bytes and the rest behind them
module _ (area : List ℕ) (from n : ℕ) {s : List ℕ} {windows : List (List ℕ)} (end : s ≡ drop from area)
    (front : windows ≡ first_chunks n (length s / n) s) (many : length windows ≡ length s / n) where
  as_long : zeros (length s) ≡ zeros (length area - from)
  as_long = ap zeros (ap length end ∙ length-drop from area)

  end_zero : drop from area ≡ zeros (length area - from) → IsZero s
  end_zero e = end ∙ e ∙ sym as_long

  windows_of_end : drop from area ≡ zeros (length area - from) → (i : ℕ) → i < length windows → IsZero (get_or windows i [])
  windows_of_end e i h =
      subst (λ (ws : List (List ℕ)). IsZero (get_or ws i [])) (sym front)
      (zero_windows n (length s / n) s i (omega arith) (div-mul-le_self (length s) n) (end_zero e))

  -- one window that is not zero tells
  pub window_differs : (i : ℕ) → i < length windows → (IsZero (get_or windows i []) → ⊥) → Decides false (drop from area ≡ zeros (length area - from))
  window_differs i h nay = refuted (λ e. nay (windows_of_end e i h))

  -- where all of them are, the rest does
  pub rest_decides : {rest : List ℕ} → rest ≡ drop (length s / n * n) s → ((i : ℕ) → i < length windows → IsZero (get_or windows i []))
      → {b : Bool} → Decides b (IsZero rest) → Decides b (drop from area ≡ zeros (length area - from))
  rest_decides {rest} back each {b} d =
      let each' = λ (i : ℕ) (h : i < length s / n). subst (λ (ws : List (List ℕ)). IsZero (get_or ws i [])) front (each i (omega arith)) in
      record {
        shows =
            λ e. sym end ∙ windows_zero n (length s / n) s each' (subst IsZero back (d.shows e)) ∙ as_long;
        shown = λ e. d.shown (subst IsZero (sym back) (zero_rest (length s / n * n) s (end_zero e)));
      }
