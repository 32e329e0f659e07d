-- The loop's invariant: writing the digits that are left, in front of those that were stored, gives the same list.
use Rattle.frame_text.proofs.Laws.{length_digits}
use Rattle.frame_text.specs.Digits.{digit_of, digits_of}
use native.Mathlib.Omega.{arith}
use mathlib.Core.Path.{◌≡◌, sym, ◌∙◌}
use mathlib.Core.List.{List, [], ◌∷◌, ◌++◌, append_assoc}
use Prim.Native.Nat.{ℕ, zero, suc, ◌+◌, ◌-◌, ◌/◌, ◌%◌, ◌≤◌, ◌<◌}
use lib.ListN.{length, set, length-set, length-append}
use lib.Seq.{drop-cons, take-set-le, drop-set-lt, get_or-set_same}
use Rattle.little.specs.Little.{written}
use Rattle.little.proofs.Laws.{written_nil}
use Rattle.frame_text.proofs.put_digits.Goals as goal

-- storing a digit, and then writing those before it, writes them all
write-before : (at : ℕ) (a s : List ℕ) (b : ℕ) → at + length a < length s → written at a (set s (at + length a) b) ≡ written at (a ++ (b ∷ [])) s
unfolding written
write-before at a s b h =
    let next : at + (length a + 1) ≡ suc (at + length a) = omega arith in
    let inside : at + length a < length (set s (at + length a) b) = rw length-set h in
    rw (
      take-set-le at s (at + length a) b (omega arith),
      drop-cons (set s (at + length a) b) (at + length a) 0 inside,
      get_or-set_same s (at + length a) b 0 h,
      drop-set-lt (suc (at + length a)) s (at + length a) b (omega arith),
      length-append,
      next,
      append_assoc a (b ∷ []),
    )

digit-before : (at i n : ℕ) (s : List ℕ) → 0 < i → at + i ≤ length s → written at (digits_of (i - 1) (n / 16)) (set s (at + (i - 1)) (digit_of (n % 16))) ≡ written at (digits_of i n) s
unfolding digits_of
digit-before at zero n s pos fits = absurd (let never : ⊥ = omega arith in never)
digit-before at (suc k) n s pos fits =
    let less : suc k - 1 ≡ k = omega arith in
    let counted : length (digits_of k (n / 16)) ≡ k = length_digits k (n / 16) in
    rw less (rw counted at (write-before at (digits_of k (n / 16)) s (digit_of (n % 16)) (rw counted (omega arith))))

pub loop-i-preserved : goal.loop-i-preserved
loop-i-preserved c = rw c.digit_of.ensures (digit-before _ _ _ _ (omega arith) (omega arith) ∙ c.loop-i.invariant)

pub returns : goal.returns
unfolding digits_of
returns c =
    let none : c.loop-i.i ≡ 0 = omega arith in
    sym (written_nil _ _) ∙ rw none at c.loop-i.invariant
