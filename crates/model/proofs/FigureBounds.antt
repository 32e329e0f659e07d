-- How far the standing entries can take a stream's figures: what keeps the figures in their bytes. By induction over the entries, each of
-- which adds at most a lot to a sum and one to a count. Assumes nothing.
use Prim.Native.Nat.{ℕ, suc, ◌+◌, ◌*◌, ◌-◌, ◌≤◌}
use mathlib.Core.Path.{◌≡◌, refl}
use mathlib.Core.Bool.{true, cond, ◌&&◌, ◌||◌}
use mathlib.Core.List.{List, [], ◌∷◌}
use native.Mathlib.Omega.{arith}
use lib.Dec.{T, eqb, ltb}
use lib.ListN.{length}
use Rattle.plans.specs.Limits.{largest_lot, largest_clearance, largest_interval}
use Rattle.plans.specs.Verdicts.{accepted_of, lot_accepted, lot_heard}
use Rattle.plans.specs.Levels.{judged_lot, met_stop}
use Rattle.plans.specs.Stops.{set_up_changed, long_stop}
use Rattle.plans.specs.Continuous.{screening, sampling, is_sampling, after_run, after_block, after_stop}
use Rattle.plans.specs.declared.level.LevelState.{LevelState}
use Rattle.plans.specs.declared.continuous.Continuous.{Continuous}
use Rattle.plans.specs.LevelBounds.{LevelWithin}
use Rattle.plans.proofs.Booleans.{either}
use Rattle.plans.proofs.LevelBounds.{judged_lot_within, met_stop_within, start_within}
use Rattle.plans.proofs.RoundedUp.{credit_after_at_most}
use Rattle.model.specs.declared.Plan.{Plan}
use Rattle.model.specs.declared.Entry.{Entry}
use Rattle.model.specs.declared.Entry.TheVariants.{Lot, Run, Block, Stop}
use Rattle.model.specs.declared.Figures.{Figures}
use Rattle.model.specs.declared.Recording.{Recording}
use Rattle.model.specs.Stations.{is_credit, is_level, is_continuous, has_option, valid_plan}
use Rattle.model.specs.Figuring.{no_level, started, verdict_on, accepted_by, credit_step, level_step, continuous_step, is_lot, label_of, stepped, figures_of}
use Rattle.model.specs.FigureBounds.{FiguresWithin}
use Rattle.model.specs.Calls.{first_refusal, rule_refusals, size_in_range, admissible}
use Rattle.model.proofs.Booleans.{within_of}
use Rattle.model.proofs.Allowed.{AllowedLot, AllowedRun, AllowedBlock, allowed_lot, allowed_run, allowed_block, newest_of_lem, continuous_plan}

-- ---- one lot, run, block or stop

pub lot_size_range : (p : Plan) (N : ℕ) → size_in_range p N ≡ true → (1 ≤ N) × (N ≤ largest_lot)
unfolding size_in_range
lot_size_range p N e =
    let range = within_of (cond (is_level p) 2 1) largest_lot N e in
    let least : 1 ≤ cond (is_level p) 2 1 = either (λ (x : ℕ). 1 ≤ x) (is_level p) (omega arith) (omega arith) in
    (omega arith, range.1)

pub accepted_of_at_most : (verdict N D : ℕ) → accepted_of verdict N D ≤ N
unfolding accepted_of
accepted_of_at_most verdict N D =
    either (λ (x : ℕ). x ≤ N) (eqb verdict lot_accepted) (omega arith)
    (either (λ (x : ℕ). x ≤ N) (eqb verdict lot_heard) (omega arith) (omega arith))

level_lot_within : (p : Plan) (n d : ℕ) (s : LevelState) → LevelWithin n s
    → LevelWithin (suc n) (cond (is_level p) (judged_lot (has_option p) (ltb 0 d) s) s)
level_lot_within p n d s h =
    let after = judged_lot_within n (has_option p) (ltb 0 d) s h in
    either (LevelWithin (suc n)) (is_level p) (omega arith) (omega arith)

level_stop_within : (p : Plan) (n why days : ℕ) (s : LevelState) → LevelWithin n s
    → LevelWithin (suc n) (cond (is_level p) (met_stop why days s) s)
level_stop_within p n why days s h =
    let after = met_stop_within n why days s h in
    either (LevelWithin (suc n)) (is_level p) (omega arith) (omega arith)

record ContinuousWithin (s : Continuous) : Type 0 where
  counts : s.count ≤ largest_clearance
  phases : s.phase ≤ 1
  tails : s.tail ≤ largest_interval

screening_within : (c : ℕ) → c ≤ largest_clearance → ContinuousWithin (screening c)
unfolding screening
screening_within c h = omega arith

sampling_within : (u : ℕ) → u ≤ largest_interval → ContinuousWithin (sampling u)
unfolding sampling
sampling_within u h = omega arith

run_within : (i h w : ℕ) (s : Continuous) → s.count + h ≤ largest_clearance → ContinuousWithin (after_run i h (eqb w 1) s)
unfolding after_run
run_within i h w s fits =
    either ContinuousWithin (eqb w 1) (screening_within 0 (omega arith))
    (either ContinuousWithin (eqb (s.count + h) i) (sampling_within 0 (omega arith)) (screening_within (s.count + h) fits))

block_within : (g q w : ℕ) (s : Continuous) → g ≤ largest_interval → ContinuousWithin (after_block g q (eqb w 1) s).state
unfolding after_block
block_within g q w s most =
    either ContinuousWithin (eqb w 1) (screening_within 0 (omega arith)) (sampling_within (g - q) (omega arith))

-- a block accepts no more than its detections
block_accepts : (g q w : ℕ) (s : Continuous) → q ≤ g → (after_block g q (eqb w 1) s).accepted ≤ g
unfolding after_block
block_accepts g q w s last = either (λ (x : ℕ). x ≤ g) (eqb w 1) (omega arith) (omega arith)

stop_within : (p : Plan) (why days : ℕ) (s : Continuous) → ContinuousWithin s
    → ContinuousWithin (cond (is_continuous p) (after_stop why days s) s)
unfolding after_stop
stop_within p why days s h =
    either ContinuousWithin (is_continuous p)
    (either ContinuousWithin (set_up_changed why || is_sampling s && long_stop days) (screening_within 0 (omega arith)) h)
    h

module _ (p : Plan) (f : Figures) (n : ℕ) (known : FiguresWithin n f) where
  lot_entered : (label N m d D : ℕ) (rec : Recording) → AllowedLot p f n label N m d D
      → FiguresWithin (suc n) (stepped p (Lot label N m d D rec) f)
  unfolding stepped credit_step level_step continuous_step accepted_by is_lot label_of
  lot_entered label N m d D rec allowed =
      let size : N ≤ largest_lot = (lot_size_range p N allowed.size).1 in
      record {
        credits =
            either (λ (x : ℕ). x ≤ largest_lot * suc n) (is_credit p)
            (omega (arith, credit_after_at_most f.credit.0 N d))
            (omega arith);
        levels = level_lot_within p n d f.level known.levels;
        counts = known.counts;
        phases = known.phases;
        tails = known.tails;
        accepted_in = omega (arith, accepted_of_at_most (verdict_on p f d) N D);
      }

  -- an entry that is no lot leaves the credit
  no_lot_entered : (after : Figures) → after.credit.0 ≡ f.credit.0
      → LevelWithin (suc n) after.level → ContinuousWithin after.continuous → after.accepted ≤ f.accepted + largest_lot
      → FiguresWithin (suc n) after
  no_lot_entered after credit level continuous accepted =
      record {
        credits = omega arith;
        levels = level;
        counts = continuous.counts;
        phases = continuous.phases;
        tails = continuous.tails;
        accepted_in = omega arith;
      }

  run_entered : T (valid_plan p) → (h w : ℕ) (rec : Recording) → AllowedRun p f n h w → FiguresWithin (suc n) (stepped p (Run h w rec) f)
  unfolding stepped credit_step level_step continuous_step accepted_by is_lot
  run_entered valid h w rec allowed =
      let plan = continuous_plan p valid allowed.continuous in
      no_lot_entered (stepped p (Run h w rec) f) refl (omega arith)
      (run_within p.a h w f.continuous (omega arith))
      (omega arith)

  block_entered : T (valid_plan p) → (q w : ℕ) (rec : Recording) → AllowedBlock p f n q w → FiguresWithin (suc n) (stepped p (Block q w rec) f)
  unfolding stepped credit_step level_step continuous_step accepted_by is_lot
  block_entered valid q w rec allowed =
      let plan = continuous_plan p valid allowed.continuous in
      no_lot_entered (stepped p (Block q w rec) f) refl (omega arith)
      (block_within p.b q w f.continuous plan.interval_most)
      (omega (arith, block_accepts p.b q w f.continuous allowed.last))

  stop_entered : (why days : ℕ) → FiguresWithin (suc n) (stepped p (Stop why days) f)
  unfolding stepped credit_step level_step continuous_step accepted_by is_lot
  stop_entered why days =
      no_lot_entered (stepped p (Stop why days) f) refl
      (level_stop_within p n why days f.level known.levels)
      (stop_within p why days f.continuous (omega arith))
      (omega arith)

-- an accepted entry
pub stepped_within : (p : Plan) (e : Entry) (f : Figures) (n : ℕ) → T (valid_plan p) → first_refusal (rule_refusals p f n e) ≡ 0
    → FiguresWithin n f → FiguresWithin (suc n) (stepped p e f)
stepped_within p (Lot label N m d D rec) f n valid taken known =
    lot_entered p f n known label N m d D rec (allowed_lot p f n label N m d D rec taken)
stepped_within p (Run h w rec) f n valid taken known = run_entered p f n known valid h w rec (allowed_run p f n h w rec taken)
stepped_within p (Block q w rec) f n valid taken known = block_entered p f n known valid q w rec (allowed_block p f n q w rec taken)
stepped_within p (Stop why days) f n valid taken known = stop_entered p f n known why days

-- ---- the standing entries

started_within : (p : Plan) → FiguresWithin 0 (started p)
unfolding started no_level screening
started_within p =
    record {
      credits = omega arith;
      levels = either (LevelWithin 0) (is_level p) start_within (omega arith);
      counts = omega arith;
      phases = omega arith;
      tails = omega arith;
      accepted_in = omega arith;
    }

pub figures_within : (p : Plan) (es : List Entry) → T (valid_plan p) → T (admissible p es) → FiguresWithin (length es) (figures_of p es)
unfolding figures_of
figures_within p [] valid ok = started_within p
figures_within p (e ∷ es) valid ok =
    let newest = newest_of_lem p e es ok in
    stepped_within p e (figures_of p es) (length es) valid newest.allowed (figures_within p es valid newest.others)
