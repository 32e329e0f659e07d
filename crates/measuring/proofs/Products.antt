-- The criteria's fractions, cross-multiplied, are the code's products: those of F as they stand, those of k with n cancelled. What the
-- machine reads is what the definitions speak of, and every product fits 64 bits. Assumes nothing.
use mathlib.Core.Path.{◌≡◌, refl, sym, ap, ◌∙◌}
use mathlib.Core.Bool.{Bool, true, false, not}
use Prim.Native.Nat.{ℕ, ◌-◌, ◌*◌, ◌≤◌, ◌^◌}
use native.Mathlib.Nat.{mul-le-mul, mul-le-mul_right, mul-lt-mul_of_pos_right}
use native.Mathlib.Omega.{arith}
use lib.Dec.{leb}
use borrow.Author.Tests.{leb-true, leb-false, le-leb, lt-leb}
use lib.IntN.{ℤ, pos, ◌-ℤ◌, ◌*ℤ◌, nat_abs, zero-*ℤ}
use lib.Signed.{lt_z, le_z, pos-nat_abs}
use mir.Syntax.{w32, w64}
use mir.Val.{Fits}
use mir.Facts.{Fits-of_lt}
use Rattle.measuring.specs.Fractions.{ratio, whole, minus, times, squared, at_most}
use Rattle.measuring.specs.Samples.{Sample, variance}
use Rattle.measuring.specs.Criteria.{meets_k, meets_f}
use Rattle.measuring.specs.Judging.{largest_sample, largest_level, largest_k, largest_f}
use Rattle.measuring.specs.Working.{largest_distance, Measured}
use Rattle.measuring.proofs.Sizes.{times_one, square, again, read}
use Rattle.measuring.proofs.Levels.{not_aboveℤ}
use Rattle.measuring.proofs.Inside.{difference_done}

-- a factor above 0 does not change a comparison
cancelled : (n a b : ℕ) → 1 ≤ n → leb (a * n) (b * n) ≡ leb a b
cancelled n a b some = go (leb a b) refl
  where
    go : (t : Bool) → leb a b ≡ t → leb (a * n) (b * n) ≡ t
    go true e = le-leb (a * n) (b * n) (mul-le-mul_right n (leb-true a b e))
    go false e = lt-leb (a * n) (b * n) (mul-lt-mul_of_pos_right (leb-false a b e) some)

-- the k criterion's products keep their order without one factor n: σ is S, δ the distance, and p is n - 1
k_cancelled : (k σ n p δ : ℕ) → 1 ≤ n → leb (k * k * σ * (n * n)) (δ * δ * (100 * 100 * (n * p))) ≡ leb (k * k * σ * n) (δ * δ * p * 10000)
k_cancelled k σ n p δ some = rw (left, right) (cancelled n (k * k * σ * n) (δ * δ * p * 10000) some)
  where
    left : k * k * σ * (n * n) ≡ k * k * σ * n * n
    left = omega arith

    right : δ * δ * (100 * 100 * (n * p)) ≡ δ * δ * p * 10000 * n
    right = omega arith

-- a distance over n is at least 0 exactly where the distance is not below 0
not_negative_lem : (d : ℤ) (n : ℕ) → at_most (whole (pos 0)) (ratio d n) ≡ not (lt_z d (pos 0))
unfolding at_most whole ratio
not_negative_lem d n =
    ap (λ (z : ℤ). le_z z (d *ℤ pos 1)) (zero-*ℤ (pos n)) ∙ ap (le_z (pos 0)) (times_one d) ∙ not_aboveℤ (pos 0) d

-- how large the products of the k criterion can be, with σ for S, δ for the distance and p for n - 1
pub record KProducts (k σ n δ : ℕ) : Type 0 where
  pub kk : k * k ≤ 10 ^ 6
  pub kkσ : k * k * σ ≤ 16 * 10 ^ 16
  pub kkσn : k * k * σ * n ≤ 16 * 10 ^ 18
  pub δδ : δ * δ ≤ 64 * 10 ^ 10
  pub δδp : δ * δ * (n - 1) ≤ 64 * 10 ^ 12
  pub scaled : δ * δ * (n - 1) * 10000 ≤ 64 * 10 ^ 16

-- and those of the F criterion, with ω for U - L
pub record FProducts (f σ n ω : ℕ) : Type 0 where
  pub scaled : σ * 1000000 ≤ 16 * 10 ^ 16
  pub ff : f * f ≤ 10 ^ 6
  pub ωω : ω * ω ≤ 64 * 10 ^ 6
  pub ffωω : f * f * (ω * ω) ≤ 64 * 10 ^ 12
  pub np : n * (n - 1) ≤ 10 ^ 4
  pub ffωωnp : f * f * (ω * ω) * (n * (n - 1)) ≤ 64 * 10 ^ 16

-- U - L as the code has it
abbrev pub width : ℤ → ℤ → ℤ
width l u = again w32 u -ℤ again w32 l

module _ (l u : ℤ) (l-small : nat_abs l ≤ largest_level) (u-small : nat_abs u ≤ largest_level) where
  width_done : (again w32 (width l u) ≡ u -ℤ l) × (nat_abs (again w32 (width l u)) ≤ 2 * largest_level)
  width_done = difference_done w32 u l largest_level u-small l-small (omega arith)

module _ (d : ℤ) (near : nat_abs d ≤ largest_distance) where
  distance_read : again w32 d ≡ d
  distance_read = read w32 (omega (arith, near))

  -- the mean lies beyond the limit
  pub beyond : (k : ℕ) (s : Sample) → lt_z (again w32 d) (pos 0) ≡ true → false ≡ meets_k k s (ratio d s.count)
  unfolding meets_k
  beyond k s e = rw (not_negative_lem d s.count, rw distance_read at e) refl

module _ {s : Sample} (m : Measured s) where
  spread_small : nat_abs s.spread ≤ 16 * 10 ^ 10
  spread_small = omega (arith, mul-le-mul m.few m.few)

  spread_read : again w64 s.spread ≡ s.spread
  spread_read = read w64 (omega (arith, spread_small))

  -- the k criterion, where the mean does not lie beyond the limit

  k_squares : (k : ℕ) (d : ℤ)
      → at_most (times (squared (ratio (pos k) 100)) (variance s)) (squared (ratio d s.count))
      ≡ leb (k * k * nat_abs s.spread * s.count) (nat_abs d * nat_abs d * (s.count - 1) * 10000)
  unfolding at_most times squared ratio variance
  k_squares k d =
      rw (square d, ← pos-nat_abs s.spread m.not_negative)
      (k_cancelled k (nat_abs s.spread) s.count (s.count - 1) (nat_abs d) (omega (arith, m.enough)))

  all_but_one : s.count - 1 ≤ largest_sample
  all_but_one = omega (arith, m.few)

  module _ (d : ℤ) (near : nat_abs d ≤ largest_distance) where
    pub k_products : (k : ℕ) → k ≤ largest_k → KProducts k (nat_abs (again w64 s.spread)) s.count (nat_abs (again w32 d))
    k_products k k-small =
        let kk : k * k ≤ 10 ^ 6 = mul-le-mul k-small k-small in
        let kkσ : k * k * nat_abs s.spread ≤ 16 * 10 ^ 16 = mul-le-mul kk spread_small in
        let δδ : nat_abs d * nat_abs d ≤ 64 * 10 ^ 10 = mul-le-mul near near in
        let δδp : nat_abs d * nat_abs d * (s.count - 1) ≤ 64 * 10 ^ 12 = mul-le-mul δδ all_but_one in
        rw (spread_read, distance_read d near)
        record { kk = kk; kkσ = kkσ; kkσn = mul-le-mul kkσ m.few; δδ = δδ; δδp = δδp; scaled = omega arith }

    pub k_compared : (k : ℕ) → lt_z (again w32 d) (pos 0) ≡ false
        → leb (k * k * nat_abs (again w64 s.spread) * s.count) (nat_abs (again w32 d) * nat_abs (again w32 d) * (s.count - 1) * 10000)
        ≡ meets_k k s (ratio d s.count)
    unfolding meets_k
    k_compared k inside =
        rw (spread_read, distance_read d near, not_negative_lem d s.count, rw (distance_read d near) at inside) (sym (k_squares k d))

  -- the largest product, k² S n
  k_none : (k : ℕ) → k ≤ largest_k → KProducts k (nat_abs (again w64 s.spread)) s.count (nat_abs (again w32 (pos 0)))
  k_none = k_products (pos 0) (omega arith)

  pub k_fits : (k : ℕ) → k ≤ largest_k → Fits w64 (k * k * nat_abs (again w64 s.spread) * s.count)
  k_fits k k-small = Fits-of_lt (omega (arith, (k_none k k-small).kkσn))

  -- the F criterion
  module _ (l u : ℤ) (l-small : nat_abs l ≤ largest_level) (u-small : nat_abs u ≤ largest_level) where
    abbrev ω : ℕ
    ω = nat_abs (again w32 (width l u))

    pub f_products : (f : ℕ) → f ≤ largest_f → FProducts f (nat_abs (again w64 s.spread)) s.count ω
    f_products f f-small =
        let ω-small : ω ≤ 2 * largest_level = (width_done l u l-small u-small).1 in
        let ff : f * f ≤ 10 ^ 6 = mul-le-mul f-small f-small in
        let ωω : ω * ω ≤ 64 * 10 ^ 6 = mul-le-mul ω-small ω-small in
        let ffωω : f * f * (ω * ω) ≤ 64 * 10 ^ 12 = mul-le-mul ff ωω in
        let np : s.count * (s.count - 1) ≤ 10 ^ 4 = mul-le-mul m.few all_but_one in
        rw spread_read
        record { scaled = omega (arith, spread_small); ff = ff; ωω = ωω; ffωω = ffωω; np = np; ffωωnp = mul-le-mul ffωω np }

    -- F² (U - L)², and the largest product, F² (U - L)² n (n - 1)
    module _ (f : ℕ) (f-small : f ≤ largest_f) where
      pub f_squares_fit : Fits w64 (f * f * (ω * ω))
      f_squares_fit = Fits-of_lt (omega (arith, (f_products f f-small).ffωω))

      pub f_fits : Fits w64 (f * f * (ω * ω) * (s.count * (s.count - 1)))
      f_fits = Fits-of_lt (omega (arith, (f_products f f-small).ffωωnp))

    pub f_compared : (f : ℕ) → leb (nat_abs (again w64 s.spread) * 1000000) (f * f * (ω * ω) * (s.count * (s.count - 1))) ≡ meets_f f l u s
    unfolding meets_f at_most times squared minus whole ratio variance
    f_compared f =
        rw (spread_read, (width_done l u l-small u-small).0, times_one u, times_one l, square (u -ℤ l), ← pos-nat_abs s.spread m.not_negative) refl
