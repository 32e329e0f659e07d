-- Tests taken apart. Assumes nothing.
use Prim.Native.Nat.{ℕ, ◌≤◌}
use mathlib.Core.Path.{◌≡◌}
use mathlib.Core.Bool.{Bool, true, false, cond, ◌&&◌}
use lib.Dec.{T, leb}
use borrow.Author.Tests.{leb-true}
use Rattle.plans.specs.Limits.{within}
pub use Rattle.std.proofs.lemmas.Bool.{and_parts as both_true}

-- what holds on either side of a test holds of what it picks
pub either : {A : Type 0} (P : A → Type 0) (b : Bool) {x y : A} → P x → P y → P (cond b x y)
either P true p q = p
either P false p q = q

-- the parts of a conjunction that holds
pub both_of : (a b : Bool) → T (a && b) → T a × T b
both_of true b t = (tt, t)
both_of false b t = absurd t

pub within_of : (low high n : ℕ) → within low high n ≡ true → (low ≤ n) × (n ≤ high)
unfolding within
within_of low high n e =
    let parts : (leb low n ≡ true) × (leb n high ≡ true) = both_true (leb low n) (leb n high) e in
    (leb-true low n parts.0, leb-true n high parts.1)
