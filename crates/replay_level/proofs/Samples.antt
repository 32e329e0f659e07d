-- How small and how large the sample of a level lot can be: Table 2's numbers grow down a column and to the left, and no sample is larger
-- than its lot. Assumes nothing.
use Prim.Native.Nat.{ℕ, ◌+◌, ◌-◌, ◌≤◌, ◌<◌}
use mathlib.Core.Path.{◌≡◌, refl, sym, ◌∙◌}
use mathlib.Core.Bool.{Bool, true, false}
use native.Mathlib.Omega.{arith}
use lib.Dec.{eqb, leb, leb→le}
use borrow.Author.Tests.{eq-eqb, ne_eqb, le-leb, lt-leb}
use Rattle.plans.specs.Limits.{verification_levels}
use Rattle.plans.specs.Severities.{reduced, tightened}
use Rattle.plans.specs.Tables.{A, table2, code_letter, column_at, tabled, level_sample}
use Rattle.plans.proofs.Booleans.{either}
use Rattle.plans.proofs.Below.{all_below, each_below}
use Rattle.plans.proofs.Rows.{code_letter_below}
use Rattle.replay_level.specs.Carrying.{fits_sample}

-- no number is less than the first row's in the column of reduced: from the columns of tightened, normal and reduced, by computation
least : (vl letter k : ℕ) → vl < 8 → letter < 5 → k < 3 → tabled A (9 - vl) ≤ tabled letter (7 + k - vl)
unfolding tabled table2 all_below
least vl letter k v l h = leb→le _ _ (each_below (at vl letter) 3 k (each_below (row vl) 5 letter (each_below (λ (v : ℕ). all_below (row v) 5) 8 vl tt v) l) h)
  where
    at : ℕ → ℕ → ℕ → Bool
    at v l k = leb (tabled A (9 - v)) (tabled l (7 + k - v))

    row : ℕ → ℕ → Bool
    row v l = all_below (at v l) 3

column_least : (vl severity letter : ℕ) → vl < 8 → letter < 5 → tabled A (column_at vl reduced) ≤ tabled letter (column_at vl severity)
unfolding column_at
column_least vl severity letter v l =
    either (λ (n : ℕ). tabled A (9 - vl) ≤ tabled letter n) (eqb severity tightened) (least vl letter 0 v l (omega arith))
    (either (λ (n : ℕ). tabled A (9 - vl) ≤ tabled letter n) (eqb severity reduced) (least vl letter 2 v l (omega arith))
    (least vl letter 1 v l (omega arith)))

-- whether a sample holds what is wrong
module _ (vl severity N d D : ℕ) where
  pub counts_differ : (D ≡ d → ⊥) → false ≡ fits_sample vl severity N d D
  unfolding fits_sample
  counts_differ e = rw (ne_eqb D d e)

  module _ (same : D ≡ d) where
    pub by_sample : (n : ℕ) → n ≡ level_sample vl severity N → leb d n ≡ fits_sample vl severity N d D
    unfolding fits_sample
    by_sample n asked = rw (asked, eq-eqb D d same)

    pub too_many : N < d → false ≡ fits_sample vl severity N d D
    unfolding level_sample
    too_many many = sym (lt-leb d (level_sample vl severity N) (omega arith)) ∙ by_sample _ refl

    pub within_least : (n : ℕ) → n ≡ tabled A (column_at vl reduced) → d ≤ n → d ≤ N → vl ≤ verification_levels → true ≡ fits_sample vl severity N d D
    unfolding level_sample
    within_least n least few size h =
        let most = column_least vl severity (code_letter vl N) (omega arith) (code_letter_below vl N) in
        sym (le-leb d (level_sample vl severity N) (omega arith)) ∙ by_sample _ refl

pub ruleset samples = (counts_differ, by_sample, too_many, within_least)
