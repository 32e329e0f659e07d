-- Tests taken apart and put together, beside those that plans has. Assumes nothing.
use Prim.Native.Nat.{ℕ, ◌^◌, ◌<◌}
use mathlib.Core.Path.{◌≡◌, refl, sym, subst, ◌∙◌}
use mathlib.Core.Bool.{Bool, true, false, ◌&&◌}
use mathlib.Core.List.{List, [], ◌∷◌}
use lib.Dec.{T, ltb, lt→ltb}
use Rattle.model.specs.Stations.{all_words}
pub use Rattle.plans.proofs.Booleans.{both_of, both_true, within_of}
pub use Rattle.std.proofs.lemmas.Bool.{or_parts as neither_of}
pub use Rattle.std.specs.Bool.{passes as of_holds}

pub holds_of : (b : Bool) → T b → b ≡ true
holds_of true t = refl
holds_of false t = absurd t

pub both : (a b : Bool) → T a → T b → T (a && b)
both true b s t = t
both false b s t = s

-- a test does not come out both ways
pub never_both : (b : Bool) → b ≡ true → b ≡ false → ⊥
never_both b holds fails = subst (λ (x : Bool). T x) (sym holds ∙ fails) tt

-- 32-bit numbers, one after the other
pub no_words : T (all_words [])
unfolding all_words
no_words = tt

pub word_and : (n : ℕ) (ns : List ℕ) → n < 2 ^ 32 → T (all_words ns) → T (all_words (n ∷ ns))
unfolding all_words
word_and n ns small words = both (ltb n (2 ^ 32)) (all_words ns) (lt→ltb n (2 ^ 32) small) words
