-- The figures that calls leave on a continuous stream are those of a place: in screening short of the clearance number, or in sampling,
-- and all else foreign. By induction over the entries. Assumes nothing.
use Prim.Native.Nat.{ℕ, ◌+◌, ◌-◌, ◌≤◌, ◌<◌}
use mathlib.Core.Path.{◌≡◌, refl}
use mathlib.Core.Bool.{Bool, true, false, cond, ◌&&◌, ◌||◌}
use mathlib.Core.List.{List, [], ◌∷◌}
use native.Mathlib.Omega.{arith}
use lib.Dec.{T, eqb}
use lib.ListN.{length}
use borrow.Author.Tests.{eq-eqb, ne_eqb, eqb-false}
use Rattle.plans.specs.declared.continuous.Continuous.{Continuous}
use Rattle.plans.specs.Stops.{set_up_changed, long_stop}
use Rattle.plans.specs.Continuous.{screening, sampling, is_sampling, after_run, after_block, after_stop}
use Rattle.plans.proofs.Booleans.{either}
use Rattle.model.specs.declared.Plan.{Plan}
use Rattle.model.specs.declared.Figures.{Figures}
use Rattle.model.specs.declared.Entry.{Entry}
use Rattle.model.specs.declared.Entry.TheVariants.{Lot, Run, Block, Stop}
use Rattle.model.specs.Stations.{valid_plan, is_level, is_continuous}
use Rattle.model.specs.Figuring.{started, credit_step, level_step, continuous_step, accepted_by, is_lot, stepped, figures_of}
use Rattle.model.specs.Calls.{first_refusal, rule_refusals, admissible}
use Rattle.model.proofs.Booleans.{never_both}
use Rattle.model.proofs.Allowed.{allowed_lot, allowed_run, newest_of_lem, continuous_plan}
use Rattle.replaying.specs.Replaying.{Left}
use Rattle.replay_continuous.specs.declared.Place.{Place}
use Rattle.replay_continuous.specs.Places.{left_of, state_of, figures_with, figures_in, place_of}

-- figures that a place stands for
pub record Placed (p : Plan) (f : Figures) : Type 0 where
  pub counts : f.continuous.count ≤ p.a
  pub within : left_of p.a f.continuous ≤ p.a
  pub same : figures_in p.a (place_of p.a f.continuous f.accepted) ≡ f

module _ (p : Plan) (n : ℕ) where
  in_screening : (c : ℕ) → c < p.a → Placed p (figures_with (screening c) n)
  unfolding figures_in left_of state_of screening is_sampling
  in_screening c short =
      let back : p.a - (p.a - c) ≡ c = omega arith in
      record { counts = omega arith; within = omega arith; same = rw (ne_eqb (p.a - c) 0 (λ z. omega arith), back) }

  in_sampling : (u : ℕ) → Placed p (figures_with (sampling u) n)
  unfolding figures_in left_of state_of sampling is_sampling
  in_sampling u = record { counts = omega arith; within = omega arith; same = refl }

  -- a run to the clearance number at most
  run_in_phase : (count : ℕ) → count ≤ p.a → Placed p (figures_with (cond (eqb count p.a) (sampling 0) (screening count)) n)
  run_in_phase count most = go (eqb count p.a) refl
    where
      go : (b : Bool) → eqb count p.a ≡ b → Placed p (figures_with (cond b (sampling 0) (screening count)) n)
      go true e = in_sampling 0
      go false e = let other = eqb-false count p.a e in in_screening count (omega arith)

module _ (p : Plan) (valid : T (valid_plan p)) (kind : p.kind ≡ 3) where
  pub continuous : is_continuous p ≡ true
  unfolding is_continuous
  continuous = eq-eqb p.kind 3 kind

  no_level_lem : is_level p ≡ false
  unfolding is_level
  no_level_lem = rw kind

  anew : (n : ℕ) → Placed p (figures_with (screening 0) n)
  anew n = in_screening p n 0 (continuous_plan p valid continuous).clearance

  by_test : (b : Bool) {x y : Continuous} (n : ℕ) → Placed p (figures_with x n) → Placed p (figures_with y n) → Placed p (figures_with (cond b x y) n)
  by_test b n = either (λ (s : Continuous). Placed p (figures_with s n)) b

  step_placed : (e : Entry) (s : Continuous) (n i : ℕ) → first_refusal (rule_refusals p (figures_with s n) i e) ≡ 0 → Placed p (figures_with s n)
      → Placed p (stepped p e (figures_with s n))
  unfolding stepped credit_step level_step continuous_step after_run after_block after_stop accepted_by is_lot
  step_placed (Lot label N m d D rec) s n i ok before =
      absurd (never_both (is_continuous p) continuous (allowed_lot p (figures_with s n) i label N m d D rec ok).lots)
  step_placed (Run h w rec) s n i ok before =
      let allowed = allowed_run p (figures_with s n) i h w rec ok in
      by_test (eqb w 1) (n + h) (anew (n + h)) (run_in_phase p (n + h) (s.count + h) (omega (arith, allowed.fits)))
  step_placed (Block q w rec) s n i ok before = by_test (eqb w 1) _ (anew _) (in_sampling p _ (p.b - q))
  step_placed (Stop why days) s n i ok before =
      let none : n + 0 ≡ n = omega arith in
      rw (no_level_lem, continuous, none) (by_test (set_up_changed why || is_sampling s && long_stop days) n (anew n) before)

  -- one entry more
  pub stepped_placed : (e : Entry) (f : Figures) (i : ℕ) → first_refusal (rule_refusals p f i e) ≡ 0 → Placed p f → Placed p (stepped p e f)
  unfolding figures_in
  stepped_placed e f i ok before =
      let state : Continuous = state_of p.a (left_of p.a f.continuous) f.continuous.tail in
      rw before.same at (step_placed e state f.accepted i (rw before.same ok) (rw before.same before))

  pub entries_placed : (es : List Entry) → T (admissible p es) → Placed p (figures_of p es)
  unfolding figures_of started
  entries_placed [] ok = rw no_level_lem (anew 0)
  entries_placed (e ∷ es) ok =
      let newest = newest_of_lem p e es ok in
      stepped_placed e (figures_of p es) (length es) newest.allowed (entries_placed es newest.others)

pub left_placed : (p : Plan) (f : Figures) → Left p f → p.kind ≡ 3 → Placed p f
left_placed p f left kind = rw left.after (entries_placed p left.valid kind left.entries left.stood)

-- and those of a place in its range are such
pub here_placed : (p : Plan) (s : Place) → s.left ≤ p.a → Placed p (figures_in p.a s)
unfolding figures_in state_of
here_placed p s in_range = go (eqb s.left 0) refl
  where
    go : (b : Bool) → eqb s.left 0 ≡ b → Placed p (figures_with (cond b (sampling s.tail) (screening (p.a - s.left))) s.accepted)
    go true e = in_sampling p s.accepted s.tail
    go false e = let some = eqb-false s.left 0 e in in_screening p s.accepted (p.a - s.left) (omega arith)
