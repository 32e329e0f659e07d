-- A measurement in range, as the machine reads it out of the slice, and its square in 64 bits. Assumes nothing.
use mathlib.Core.Path.{◌≡◌, ◌∙◌}
use mathlib.Core.List.{List}
use Prim.Native.Nat.{ℕ, ◌+◌, ◌*◌, ◌≤◌, ◌<◌, ◌^◌}
use native.Mathlib.Nat.{mul-le-mul}
use native.Mathlib.Omega.{arith}
use lib.ListN.{length, get_or}
use lib.IntN.{ℤ, pos, ◌+ℤ◌, ◌*ℤ◌, nat_abs}
use mir.Syntax.{w32, w64}
use mir.Val.{SFits}
use mir.ValLaws.{to_z-of_z}
use Rattle.std.proofs.lemmas.Int.{unsigned_abs-mul}
use Rattle.measuring.specs.Judging.{largest_level}
use Rattle.measuring.specs.Working.{Ranged}
use Rattle.measuring.proofs.Sizes.{again, sized, near_again, widened}
use Rattle.measuring.proofs.Levels.{level_at}
use Rattle.measuring.proofs.Sums.{SumAt, sum_fits, sum_next}

pub record Level (x : ℤ) : Type 0 where
  pub fits : SFits w32 x
  pub small : nat_abs x ≤ largest_level

-- the i-th of measurements in range
pub element : (xs : List ℤ) (i : ℕ) → Ranged xs → Level (get_or xs i (pos 0))
element xs i ranged = let small = level_at xs ranged.levels i in record { fits = sized w32 (omega (arith, small)); small = small }

module _ {x : ℤ} (level : Level x) where
  pub read_is : again w32 x ≡ x
  read_is = to_z-of_z w32 x level.fits

  pub read_size : nat_abs (again w32 x) ≤ largest_level
  read_size = near_again level.fits level.small

  abbrev wide : ℤ
  wide = again w64 (again w32 x)

  square_size : nat_abs (x *ℤ x) ≤ largest_level * largest_level
  square_size = rw (unsigned_abs-mul x x) (mul-le-mul {n₁ = nat_abs x} {m₁ = nat_abs x} {n₂ = largest_level} {m₂ = largest_level} level.small level.small)

  pub squared_fits : SFits w64 (wide *ℤ wide)
  squared_fits = rw (widened level.fits) (sized w64 (omega (arith, square_size)))

  pub squared_is : again w64 (wide *ℤ wide) ≡ x *ℤ x
  squared_is = to_z-of_z w64 (wide *ℤ wide) squared_fits ∙ rw (widened level.fits)

  pub squared_size : nat_abs (again w64 (wide *ℤ wide)) ≤ largest_level * largest_level
  squared_size = rw squared_is square_size

-- ---- one turn of each loop that sums, from what it has learnt

module _ {xs : List ℤ} (ranged : Ranged xs) {i : ℕ} (here : i < length xs) where
  level : Level (get_or xs i (pos 0))
  level = element xs i ranged

  level_room : length xs * largest_level < 2 ^ 31
  level_room = omega (arith, ranged.few)

  pub level_fits : {z : ℤ} → SumAt (λ x. x) largest_level xs z i → SFits w32 (z +ℤ again w32 (get_or xs i (pos 0)))
  level_fits inv = sum_fits inv here (read_is level) (read_size level) w32 level_room

  pub level_next : {z : ℤ} → SumAt (λ x. x) largest_level xs z i → SumAt (λ x. x) largest_level xs (again w32 (z +ℤ again w32 (get_or xs i (pos 0)))) (i + 1)
  level_next inv = sum_next inv here (read_is level) (read_size level) w32 level_room

  abbrev squared : ℤ
  squared = again w64 (again w64 (again w32 (get_or xs i (pos 0))) *ℤ again w64 (again w32 (get_or xs i (pos 0))))

  square_room : length xs * (largest_level * largest_level) < 2 ^ 63
  square_room = omega (arith, ranged.few)

  pub square_fits : {z : ℤ} → SumAt (λ x. x *ℤ x) (largest_level * largest_level) xs z i → SFits w64 (z +ℤ squared)
  square_fits inv = sum_fits inv here (squared_is level) (squared_size level) w64 square_room

  pub square_next : {z : ℤ} → SumAt (λ x. x *ℤ x) (largest_level * largest_level) xs z i → SumAt (λ x. x *ℤ x) (largest_level * largest_level) xs (again w64 (z +ℤ squared)) (i + 1)
  square_next inv = sum_next inv here (squared_is level) (squared_size level) w64 square_room
