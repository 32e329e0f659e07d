-- A level lies from -4,000 to 4,000, so that its size is at most 4,000. Assumes nothing.
use mathlib.Core.Path.{◌≡◌, refl}
use mathlib.Core.Bool.{Bool, true, false, not}
use mathlib.Core.List.{List, [], ◌∷◌}
use Prim.Native.Nat.{ℕ, zero, suc, ◌-◌, ◌≤◌}
use lib.ListN.{get_or}
use native.Mathlib.Omega.{arith}
use lib.Dec.{leb, ltb}
use borrow.Author.Tests.{leb-true, le-leb, lt-leb, ltb-true, ltb-false}
use lib.IntN.{ℤ, pos, negsuc, nat_abs}
use lib.Signed.{le_z, lt_z}
use Rattle.std.proofs.Common.{Option, Some}
use Rattle.plans.proofs.Booleans.{both_true}
use Rattle.measuring.specs.Judging.{largest_level, is_level, are_levels, limit_in_range}

pub level_size : (x : ℤ) → is_level x ≡ true → nat_abs x ≤ largest_level
unfolding is_level
level_size (pos n) e = leb-true n largest_level e
level_size (negsuc n) e = omega (arith, leb-true n (largest_level - 1) (both_true (leb n (largest_level - 1)) true e).0)

-- and of a limit that is given
pub given_size : {limit : Option ℤ} {x : ℤ} → limit ≡ Some x → limit_in_range limit ≡ true → nat_abs x ≤ largest_level
unfolding limit_in_range
given_size {limit} {x} given ranged = level_size x (rw given at ranged)

-- and of each of a list of them

pub level_first : (x : ℤ) (xs : List ℤ) → are_levels (x ∷ xs) ≡ true → (is_level x ≡ true) × (are_levels xs ≡ true)
unfolding are_levels
level_first x xs e = both_true (is_level x) (are_levels xs) e

pub level_at : (xs : List ℤ) → are_levels xs ≡ true → (i : ℕ) → nat_abs (get_or xs i (pos 0)) ≤ largest_level
level_at [] e i = omega arith
level_at (x ∷ xs) e zero = level_size x (level_first x xs e).0
level_at (x ∷ xs) e (suc i) = level_at xs (level_first x xs e).1 i

-- at most is not above, in ℕ and in ℤ
not_above : (a b : ℕ) → leb a b ≡ not (ltb b a)
not_above a b = go (ltb b a) refl
  where
    go : (t : Bool) → ltb b a ≡ t → leb a b ≡ not t
    go true e = lt-leb a b (ltb-true b a e)
    go false e = le-leb a b (ltb-false b a e)

pub not_aboveℤ : (a b : ℤ) → le_z a b ≡ not (lt_z b a)
not_aboveℤ (pos a) (pos b) = not_above a b
not_aboveℤ (pos a) (negsuc b) = refl
not_aboveℤ (negsuc a) (pos b) = refl
not_aboveℤ (negsuc a) (negsuc b) = not_above b a
