-- A frame that is made of small numbers has a small stream, and its call's arguments are 32-bit numbers, each standing in a slot.
-- Assumes nothing.
use mathlib.Core.Bool.{Bool, true, false, cond}
use mathlib.Core.List.{List, [], ◌∷◌, ◌++◌, map}
use Prim.Native.Nat.{ℕ, ◌^◌, ◌<◌}
use lib.Dec.{T, eqb}
use lib.ListN.{get_or}
use Rattle.model.specs.Stations.{arguments, entry_arguments, all_words}
use Rattle.model.specs.Store.{Request}
use Rattle.model.specs.Claims.{are_words}
use Rattle.model.proofs.Booleans.{both, no_words, word_and}
use Rattle.std.specs.Prelude.{Option, Some, None}
use Rattle.numbering.specs.declared.Frame.{Frame}
use Rattle.numbering.specs.Numbers.{frame_arguments, unused_zero, numbered, request_of}

-- the stream is below a limit, and the arguments are 32-bit numbers
abbrev pub Small : ℕ → Option Frame → Type 0
Small limit (Some f) = (f.stream < limit) × T (all_words (arguments f.call))
Small limit None = Unit {0}

pub either_small : (limit : ℕ) (t : Bool) (x y : Option Frame) → Small limit x → Small limit y → Small limit (cond t x y)
either_small limit true x y hx hy = hx
either_small limit false x y hx hy = hy

module _ (limit number stream : ℕ) (s : List ℕ) (small : stream < limit) (words : (k : ℕ) → get_or s k 0 < 2 ^ 32) where
  -- the arguments in any slots, here counted from 0
  slots : (ks : List ℕ) → T (all_words (map (λ (k : ℕ). get_or s k 0) ks))
  slots [] = no_words
  slots (k ∷ ks) = word_and (get_or s k 0) (map (λ (k : ℕ). get_or s k 0) ks) (words k) (slots ks)

  pub numbered_small : Small limit (numbered number stream s)
  unfolding numbered arguments entry_arguments
  numbered_small =
      either_small limit (unused_zero number s frame_arguments) _ None
      (either_small limit (eqb number 1) _ _ (small, slots (0 ∷ 1 ∷ 2 ∷ 3 ∷ 4 ∷ []))
      (either_small limit (eqb number 2) _ _ (small, slots (0 ∷ 1 ∷ 2 ∷ 3 ∷ 4 ∷ 5 ∷ 6 ∷ []))
      (either_small limit (eqb number 3) _ _ (small, slots (0 ∷ 1 ∷ 5 ∷ 6 ∷ []))
      (either_small limit (eqb number 4) _ _ (small, slots (0 ∷ 1 ∷ 5 ∷ 6 ∷ []))
      (either_small limit (eqb number 5) _ _ (small, slots (0 ∷ 1 ∷ []))
      (either_small limit (eqb number 6) _ _ (small, no_words)
      (either_small limit (eqb number 7) _ _ (small, slots (0 ∷ []))
      (either_small limit (eqb number 8) _ _ (small, no_words)
      (either_small limit (eqb number 9) _ None (small, slots (0 ∷ [])) tt)))))))))
      tt

pub words_before : (limit : ℕ) (f : Option Frame) (rs : List Request) → Small limit f → T (are_words rs)
    → T (are_words (request_of f ++ rs))
unfolding request_of are_words
words_before limit (Some f) rs small h = both (all_words (arguments f.call)) (are_words rs) small.1 h
words_before limit None rs small h = h
