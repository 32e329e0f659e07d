-- What a computed test says of every number below a bound. Assumes nothing.
use Prim.Native.Nat.{ℕ, zero, suc, ◌<◌}
use mathlib.Core.Path.{◌≡◌, refl}
use mathlib.Core.Bool.{Bool, true, false, ◌&&◌}
use native.Mathlib.Omega.{arith}
use lib.Dec.{T, eqb}
use borrow.Author.Tests.{eqb-true, eqb-false}
use Rattle.plans.proofs.Booleans.{both_of}

unfoldable pub all_below : (ℕ → Bool) → ℕ → Bool
all_below f zero = true
all_below f (suc n) = f n && all_below f n

pub each_below : (f : ℕ → Bool) (n i : ℕ) → T (all_below f n) → i < n → T (f i)
unfolding all_below
each_below f zero i t h = absurd (omega arith)
each_below f (suc n) i t h = go (eqb i n) refl (λ g. each_below f n i (both_of (f n) (all_below f n) t).1 g)
  where
    go : (b : Bool) → eqb i n ≡ b → (i < n → T (f i)) → T (f i)
    go true e others = rw (eqb-true i n e) (both_of (f n) (all_below f n) t).0
    go false e others = others (omega (arith, eqb-false i n e))
