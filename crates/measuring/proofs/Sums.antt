-- One turn of a loop that sums: z is the sum of what f makes of the first i numbers. The numbers that f makes have sizes of at most b,
-- so that the sum of all fits. Assumes nothing.
use mathlib.Core.Path.{◌≡◌, refl, sym, ap, ◌∙◌}
use mathlib.Core.List.{List}
use Prim.Native.Nat.{ℕ, ◌+◌, ◌*◌, ◌≤◌, ◌<◌, ◌^◌}
use native.Mathlib.Numerals.{add-one}
use native.Mathlib.Nat.{mul-le-mul, le_refl, lt_of_le_of_lt}
use native.Mathlib.Omega.{arith}
use lib.ListN.{length, drop, get_or, drop_of_length-le}
use lib.Seq.{drop-cons}
use lib.IntN.{ℤ, pos, ◌+ℤ◌, +ℤ_assoc, +ℤ_idl, +ℤ_idr, nat_abs}
use mir.Syntax.{Width}
use mir.Val.{SFits, hbits, to_z, of_z}
use mir.ValLaws.{to_z-of_z}
use Rattle.measuring.specs.Samples.{sum_of}
use Rattle.measuring.proofs.Sizes.{size_sum, sized}

pub record SumAt (f : ℤ → ℤ) (b : ℕ) (xs : List ℤ) (z : ℤ) (i : ℕ) : Type 0 where
  pub within : i ≤ length xs
  pub small : nat_abs z ≤ i * b
  pub sofar : z +ℤ sum_of f (drop i xs) ≡ sum_of f xs

pub sum_first : (f : ℤ → ℤ) (b : ℕ) (xs : List ℤ) → SumAt f b xs (pos 0) 0
sum_first f b xs = record { within = omega arith; small = omega arith; sofar = +ℤ_idl (sum_of f xs) }

module _ {f : ℤ → ℤ} {b : ℕ} {xs : List ℤ} {z : ℤ} {i : ℕ} (inv : SumAt f b xs z i) where
  module _ {v : ℤ} (here : i < length xs) (is : v ≡ f (get_or xs i (pos 0))) (short : nat_abs v ≤ b) where
    next_size : nat_abs (z +ℤ v) ≤ (i + 1) * b
    next_size = omega (arith, size_sum z v, inv.small)

    rest_is : sum_of f (drop i xs) ≡ v +ℤ sum_of f (drop (i + 1) xs)
    unfolding sum_of
    rest_is = rw (add-one, drop-cons xs i (pos 0) here, is) refl

    module _ (w : Width) (room : length xs * b < 2 ^ hbits w) where
      pub sum_fits : SFits w (z +ℤ v)
      sum_fits = sized w (lt_of_le_of_lt (omega (arith, next_size, mul-le-mul {n₁ = i + 1} {m₁ = b} {n₂ = length xs} {m₂ = b} (omega arith) (le_refl b))) room)

      next_is : to_z w (of_z w (z +ℤ v)) ≡ z +ℤ v
      next_is = to_z-of_z w _ sum_fits

      pub sum_next : SumAt f b xs (to_z w (of_z w (z +ℤ v))) (i + 1)
      sum_next = record {
        within = omega arith;
        small = rw next_is next_size;
        sofar = rw next_is (+ℤ_assoc z v (sum_of f (drop (i + 1) xs)) ∙ ap (λ (y : ℤ). z +ℤ y) (sym rest_is) ∙ inv.sofar);
      }

  pub sum_done : length xs ≤ i → z ≡ sum_of f xs
  unfolding sum_of
  sum_done h = sym (+ℤ_idr z) ∙ (rw (drop_of_length-le xs h) at inv.sofar)
