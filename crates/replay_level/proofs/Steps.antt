-- What an entry gives on a level stream, in its numbers: each answer from facts in the code's own form, what was tested and what the
-- callees ensure. The sets at the end are handed to the search, which finds these facts among what a function has learnt.
-- Assumes nothing.
use Prim.Native.Nat.{ℕ, ◌+◌, ◌≤◌, ◌<◌, ◌^◌}
use mathlib.Core.Path.{◌≡◌, refl, sym, ◌∙◌}
use mathlib.Core.Bool.{Bool, true, false, cond, not, ◌&&◌, and-true, and_comm}
use native.Mathlib.Nat.{add-zero}
use native.Mathlib.Omega.{arith}
use lib.Dec.{eqb, ltb, leb, leb-zero}
use borrow.Author.Tests.{eqb-true, ne_eqb, lt-ltb, not-true, not-false}
use Rattle.plans.specs.Limits.{verification_levels}
use Rattle.plans.specs.LevelBounds.{most_counted}
use Rattle.plans.specs.Verdicts.{level_verdict, accepted_of}
use Rattle.plans.specs.Tables.{level_sample}
use Rattle.plans.specs.Levels.{judged_lot, met_stop}
use Rattle.plans.specs.declared.level.LevelState.{LevelState}
use Rattle.model.specs.declared.Plan.{Plan}
use Rattle.model.specs.declared.Figures.{Figures}
use Rattle.model.specs.declared.Entry.TheVariants.{Stop}
use Rattle.model.specs.Stations.{is_credit, is_level, is_continuous, has_option}
use Rattle.model.specs.Figuring.{sample_asked, verdict_on, credit_step, level_step}
use Rattle.model.specs.Calls.{size_in_range, counts_agree}
use Rattle.model.proofs.Allowed.{level_plan}
use Rattle.model.proofs.Booleans.{both_true}
use Rattle.rules.specs.Refusing.{may_follow, is_stop}
use Rattle.std.specs.Prelude.{Option, Some, None}
use Rattle.replaying.specs.Replaying.{tried, asked_lot, Left, On, GoesOn, Tells}
use Rattle.replaying.specs.LotStreams.{lot_figures}
use Rattle.replaying.proofs.LotStreams.{numbers_kept, lot_numbers, stop_numbers}
use Rattle.replaying.proofs.Reached.{no_credit}
use Rattle.replaying.proofs.Tried.{told_by_test, lot_tried, stop_tried}
use Rattle.replay_level.specs.declared.Carried.{Carried}
use Rattle.replay_level.specs.Carrying.{figures_in, fits_sample}

-- numbers with room for one entry more, of a stream that goes on, as the steps take them
abbrev pub OnLevel : Plan → Carried → Type 0
OnLevel p s = GoesOn 2 figures_in (λ _. Unit {0}) p s

-- a step that is what a lot, and what a stop, gives on the numbers
abbrev pub LotGives : Plan → Carried → ℕ → ℕ → ℕ → ℕ → Option Carried → Type 0
LotGives p s label N d D x = Tells figures_in (λ _. Unit {0}) x (tried p (figures_in s) (asked_lot p (figures_in s) label N d D))

abbrev pub StopGives : Plan → Carried → ℕ → ℕ → Option Carried → Type 0
StopGives p s why days x = Tells figures_in (λ _. Unit {0}) x (tried p (figures_in s) (Stop why days))

-- the numbers of figures stand for them
pub numbers_of : (p : Plan) (f : Figures) → Left p f → p.kind ≡ 2 → figures_in (record { state = f.level; accepted = f.accepted; above = f.above }) ≡ f
unfolding figures_in is_credit is_continuous
numbers_of p f left kind = numbers_kept p f left.entries left.stood left.after (rw kind) _ _ (no_credit p f left.entries left.stood left.after (rw kind)) refl

-- ---- steps

-- refusal 13 of a level lot
counts_agree_lem : (N n d D : ℕ) → counts_agree (level_verdict d) N n d D ≡ eqb D d && leb d n
unfolding counts_agree level_verdict
counts_agree_lem N n d D = go (eqb d 0) refl
  where
    go : (b : Bool) → eqb d 0 ≡ b → counts_agree (level_verdict d) N n d D ≡ eqb D d && leb d n
    go true e = simp (eqb-true d 0 e, leb-zero, and-true)
    go false e = simp (e, and-true, and_comm (leb d n) (eqb D d))

module _ (p : Plan) (s : Carried) (on : On 2 figures_in (λ _. Unit {0}) p s) where
  pub lots : is_continuous p ≡ false
  unfolding is_continuous
  lots = rw on.of_kind

module _ (p : Plan) (s : Carried) (run : OnLevel p s) where
  module _ (label N d D : ℕ) where
    lot_told : (b : Bool) → may_follow 2 s.above label N && fits_sample p.a s.state.level N d D ≡ b
        → LotGives p s label N d D (cond b (Some (record { state = judged_lot (has_option p) (ltb 0 d) s.state; accepted = s.accepted + accepted_of (level_verdict d) N D; above = label + 1 })) None)
    unfolding asked_lot size_in_range is_level is_credit sample_asked verdict_on credit_step level_step figures_in lot_figures may_follow fits_sample
    lot_told b test =
        let agree = counts_agree_lem N (level_sample p.a s.state.level N) d D in
        rw (lot_tried p (figures_in s) run.goes_on (lots p s run.on) label N d D, lot_numbers 0 s.state s.accepted s.above p label N _ d D _)
        (rw (run.on.of_kind, agree, test) (told_by_test figures_in _ b _ _ refl tt))

  stop_told : (why days : ℕ) (b : Bool) → is_stop why days ≡ b
      → StopGives p s why days (cond b (Some (record { state = met_stop why days s.state; accepted = s.accepted; above = s.above })) None)
  unfolding level_step is_level figures_in
  stop_told why days b test =
      rw (stop_tried p (figures_in s) run.goes_on why days, stop_numbers 0 s.state s.accepted s.above p why days (lots p s run.on), run.on.of_kind, test)
      (told_by_test figures_in _ b _ _ refl tt)

  -- the answers of the code: a lot
  module _ (label N : ℕ) (may : Bool) (tested : may ≡ may_follow 2 s.above label N) where
    pub lot_refused : (d D : ℕ) → not may ≡ true → LotGives p s label N d D None
    lot_refused d D fails = lot_told label N d D false (rw (sym tested ∙ not-true may fails))

    module _ (fits : not may ≡ false) where
      follows : may_follow 2 s.above label N ≡ true
      follows = sym tested ∙ not-false may fits

      pub good_stands : (after : LevelState) → after ≡ judged_lot (eqb p.option 1) false s.state
          → LotGives p s label N 0 0 (Some (record { state = after; accepted = s.accepted + N; above = label + 1 }))
      unfolding has_option fits_sample accepted_of level_verdict
      good_stands after judged = rw judged (lot_told label N 0 0 true (rw (follows, leb-zero)))

      module _ (d D : ℕ) (held : Bool) (counted : held ≡ fits_sample p.a s.state.level N d D) where
        pub lot_unfit : not held ≡ true → LotGives p s label N d D None
        lot_unfit fails = lot_told label N d D false (rw (follows, sym counted ∙ not-true held fails))

        -- something wrong, and a sample that holds it: withheld
        pub wrong_stands : not held ≡ false → ((d ≡ 0) × (D ≡ 0) → ⊥) → (after : LevelState) → after ≡ judged_lot (eqb p.option 1) true s.state
            → LotGives p s label N d D (Some (record { state = after; accepted = s.accepted; above = label + 1 }))
        unfolding has_option fits_sample accepted_of level_verdict
        wrong_stands holds some after judged =
            let holding : fits_sample p.a s.state.level N d D ≡ true = sym counted ∙ not-false held holds in
            let same : D ≡ d = eqb-true D d (both_true (eqb D d) _ holding).0 in
            let wrong : d ≡ 0 → ⊥ = λ z. some (z, same ∙ z) in
            rw judged (rw (lt-ltb 0 d (omega (arith, wrong)), ne_eqb d 0 wrong, add-zero) at (lot_told label N d D true (rw (follows, holding))))

  -- and a stop
  module _ (why days : ℕ) (ok : Bool) (tested : ok ≡ is_stop why days) where
    pub stop_refused : not ok ≡ true → StopGives p s why days None
    stop_refused fails = stop_told why days false (sym tested ∙ not-true ok fails)

    pub stop_stands : not ok ≡ false → (after : LevelState) → after ≡ met_stop why days s.state
        → StopGives p s why days (Some (record { state = after; accepted = s.accepted; above = s.above }))
    stop_stands holds after met = rw met (stop_told why days true (sym tested ∙ not-false ok holds))

  -- every sum is in range
  pub plan_least : 1 ≤ p.a
  unfolding is_credit is_continuous
  plan_least = (level_plan p run.on.valid (rw run.on.of_kind) (rw run.on.of_kind)).0

  pub plan_most : p.a ≤ verification_levels
  unfolding is_credit is_continuous
  plan_most = (level_plan p run.on.valid (rw run.on.of_kind) (rw run.on.of_kind)).1

  pub row_room : s.state.row < most_counted
  unfolding figures_in lot_figures
  row_room = omega (arith, run.on.room.levels)

  pub judged_room : s.state.judged < most_counted
  unfolding figures_in lot_figures
  judged_room = omega (arith, run.on.room.levels)

  pub sum_fits : (n : ℕ) → n < 2 ^ 32 → s.accepted + n < 2 ^ 64
  unfolding figures_in lot_figures
  sum_fits n small = omega (arith, run.on.room.accepted_in)

pub ruleset stops = (stop_refused, stop_stands)

pub ruleset steps = (lot_refused, good_stands, lot_unfit, wrong_stands, plan_least, plan_most, row_room, judged_room, sum_fits)
