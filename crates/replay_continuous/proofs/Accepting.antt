-- Which runs and blocks the rules allow on the figures of a place. Assumes nothing.
use Prim.Native.Nat.{ℕ, ◌+◌, ◌-◌, ◌≤◌}
use mathlib.Core.Path.{◌≡◌, refl}
use mathlib.Core.Bool.{Bool, true, false, cond, not, ◌&&◌, ◌||◌, or-true}
use native.Mathlib.Omega.{arith}
use lib.Dec.{eqb, ltb, leb}
use borrow.Author.Tests.{eq-eqb, ne_eqb, leb-true, leb-false, ltb-true, ltb-false, lt-ltb, le-ltb}
use Rattle.plans.specs.Limits.{largest_clearance, within}
use Rattle.plans.specs.Continuous.{screening, sampling, is_sampling}
use Rattle.model.specs.declared.Plan.{Plan}
use Rattle.model.specs.declared.Entry.TheVariants.{Run, Block}
use Rattle.model.specs.Stations.{is_continuous}
use Rattle.model.specs.Records.{no_recording}
use Rattle.model.specs.Calls.{first_refusal, rule_refusals, is_full, allows}
use Rattle.replay_continuous.specs.declared.Place.{Place}
use Rattle.replay_continuous.specs.Places.{state_of, figures_in, fits_run, flag_of}

unfit : (x : Bool) → eqb (cond x 15 14) 0 ≡ false
unfit true = refl
unfit false = refl

-- 15 and 14 of a run where so many are left
fits_left : (i left h : ℕ) (wrong : Bool) → left ≤ i → i ≤ largest_clearance
    → eqb (cond (ltb 10000 h || ltb 1 (flag_of wrong) || eqb (h + flag_of wrong) 0) 15 (cond (eqb left 0 || ltb i (i - left + h + flag_of wrong)) 14 0))
    0 ≡ fits_run left h wrong
unfolding fits_run within
fits_left i left h true least most = go (ltb h left) refl
  where
    go : (b : Bool) → ltb h left ≡ b
        → eqb (cond (ltb 10000 h || false || eqb (h + 1) 0) 15 (cond (eqb left 0 || ltb i (i - left + h + 1)) 14 0)) 0 ≡ b
    go true e =
        let less = ltb-true h left e in
        rw (le-ltb 10000 h (omega arith), ne_eqb (h + 1) 0 (λ z. omega arith), ne_eqb left 0 (λ z. omega arith))
        (rw (le-ltb i (i - left + h + 1) (omega arith)))
    go false e =
        let more = ltb-false h left e in
        rw (lt-ltb i (i - left + h + 1) (omega arith), or-true (eqb left 0)) (unfit (ltb 10000 h || false || eqb (h + 1) 0))
fits_left i left h false least most = go (leb 1 h) (leb h left) refl refl
  where
    go : (a b : Bool) → leb 1 h ≡ a → leb h left ≡ b
        → eqb (cond (ltb 10000 h || false || eqb (h + 0) 0) 15 (cond (eqb left 0 || ltb i (i - left + h + 0)) 14 0)) 0 ≡ a && b
    go true true e g =
        let first = leb-true 1 h e in
        let last = leb-true h left g in
        rw (le-ltb 10000 h (omega arith), ne_eqb (h + 0) 0 (λ z. omega arith), ne_eqb left 0 (λ z. omega arith))
        (rw (le-ltb i (i - left + h + 0) (omega arith)))
    go true false e g =
        let more = leb-false h left g in
        rw (lt-ltb i (i - left + h + 0) (omega arith), or-true (eqb left 0)) (unfit (ltb 10000 h || false || eqb (h + 0) 0))
    go false b e g = let none = leb-false 1 h e in rw (eq-eqb (h + 0) 0 (omega arith), or-true (ltb 10000 h || false))

module _ (p : Plan) (continuous : is_continuous p ≡ true) (s : Place) where
  -- in sampling no run is allowed, and in screening no block
  pub no_run : s.left ≡ 0 → (h w : ℕ) → allows p (figures_in p.a s) 0 (Run h w no_recording) ≡ false
  unfolding allows first_refusal rule_refusals is_full figures_in state_of sampling is_sampling
  no_run none h w = rw (continuous, none) (unfit (ltb 10000 h || ltb 1 w || eqb (h + w) 0))

  pub no_block : (s.left ≡ 0 → ⊥) → (q w : ℕ) → allows p (figures_in p.a s) 0 (Block q w no_recording) ≡ false
  unfolding allows first_refusal rule_refusals is_full figures_in state_of screening is_sampling
  no_block some q w = rw (continuous, ne_eqb s.left 0 some) (unfit (not (within 1 p.b q) || ltb 1 w))

  pub run_allows : s.left ≤ p.a → p.a ≤ largest_clearance → (h : ℕ) (wrong : Bool)
      → allows p (figures_in p.a s) 0 (Run h (flag_of wrong) no_recording) ≡ fits_run s.left h wrong
  unfolding allows first_refusal rule_refusals is_full figures_in state_of screening sampling is_sampling
  run_allows least most h wrong = go (eqb s.left 0) refl
    where
      go : (b : Bool) → eqb s.left 0 ≡ b → allows p (figures_in p.a s) 0 (Run h (flag_of wrong) no_recording) ≡ fits_run s.left h wrong
      go true e = rw (continuous, e) (rw e at (fits_left p.a s.left h wrong least most))
      go false e = rw (continuous, e) (rw e at (fits_left p.a s.left h wrong least most))

  pub block_allows : s.left ≡ 0 → (q : ℕ) (wrong : Bool)
      → allows p (figures_in p.a s) 0 (Block q (flag_of wrong) no_recording) ≡ within 1 p.b q
  unfolding allows first_refusal rule_refusals is_full figures_in state_of sampling is_sampling
  block_allows none q wrong = go wrong (within 1 p.b q) refl
    where
      go : (wrong b : Bool) → within 1 p.b q ≡ b → allows p (figures_in p.a s) 0 (Block q (flag_of wrong) no_recording) ≡ b
      go true true e = rw (continuous, none, e)
      go true false e = rw (continuous, none, e)
      go false true e = rw (continuous, none, e)
      go false false e = rw (continuous, none, e)
