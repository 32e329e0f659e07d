-- Numbers put together bit by bit, so that one comparison tells of all. Assumes nothing.
use Prim.Native.Nat.{ℕ, zero, suc}
use mathlib.Core.Path.{◌≡◌, refl, sym, ap, ◌∙◌}
use mathlib.Core.Bool.{◌&&◌}
use mathlib.Core.List.{List, [], ◌∷◌}
use native.Mathlib.Omega.{arith}
use lib.Bits.{bit_or, or_add_and, and_le_l, and_le_r}
use lib.Dec.{eqb, eqb-suc-zero}
use lib.ListN.{length}
use borrow.Author.Tests.{ne_eqb, eqb-true, eq-eqb}
use Rattle.std.specs.List.{fold}
use Rattle.model.specs.Area.{zeros}
use Rattle.records.specs.Records.{Decides}

-- a bit of either is a bit of the two together
pub either_bit : (x y : ℕ) → eqb (bit_or x y) 0 ≡ eqb x 0 && eqb y 0
either_bit zero y = refl
either_bit (suc x) y =
    rw (eqb-suc-zero x) (ne_eqb (bit_or (suc x) y) 0 (λ e. omega (arith, or_add_and (suc x) y, and_le_r (suc x) y)))

-- two that have no bit together have none
pub no_bits : (x y : ℕ) → bit_or x y ≡ 0 → (x ≡ 0) × (y ≡ 0)
no_bits x y e = (omega (arith, or_add_and x y, and_le_r x y), omega (arith, or_add_and x y, and_le_l x y))

-- numbers that have no bit together with others have none
none_together : (bits : ℕ) (s : List ℕ) → fold bit_or bits s ≡ 0 → (bits ≡ 0) × (s ≡ zeros (length s))
none_together bits [] e = (e, refl)
none_together bits (x ∷ s) e =
    let rest = none_together (bit_or bits x) s e in
    let first = no_bits bits x rest.0 in
    (first.0, cc)

zeros_together : (k : ℕ) → fold bit_or 0 (zeros k) ≡ 0
zeros_together zero = refl
zeros_together (suc k) = zeros_together k

-- bytes put together tell whether all of them are zero
pub decides_zero : (s : List ℕ) {bits : ℕ} → bits ≡ fold bit_or 0 s → Decides (eqb bits 0) (s ≡ zeros (length s))
decides_zero s {bits} is =
    record {
      shows = λ e. (none_together 0 s (sym is ∙ eqb-true bits 0 e)).1;
      shown = λ e. eq-eqb bits 0 (is ∙ ap (fold bit_or 0) e ∙ zeros_together (length s));
    }
