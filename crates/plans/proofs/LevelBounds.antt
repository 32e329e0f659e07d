-- How far a lot or a stop can take a level stream's state: what keeps the state in its bytes. Every test picks one of two states within
-- the bounds. Assumes nothing.
use Prim.Native.Nat.{ℕ, ◌+◌, ◌%◌, ◌≤◌}
use mathlib.Core.Bool.{Bool, cond, ◌&&◌, ◌||◌}
use native.Mathlib.Omega.{arith}
use lib.Dec.{eqb, leb}
use Rattle.plans.specs.Levels.{
  level_start,
  lengthened,
  judged_on_tightened,
  shifted,
  counted,
  arrived,
  moved,
  after_normal,
  after_tightened,
  after_reduced,
  level_after,
  judged_lot,
  met_stop,
  withheld_in,
}
use Rattle.plans.specs.LevelBounds.{LevelWithin}
use Rattle.plans.specs.Severities.{reduced, normal, tightened}
use Rattle.plans.specs.Stops.{set_up_changed, long_stop}
use Rattle.plans.specs.declared.level.LevelState.{LevelState}
use Rattle.plans.proofs.Booleans.{either}

arrived_within : (n level : ℕ) (s : LevelState) → level ≤ 3 → LevelWithin n s → LevelWithin n (arrived level s)
unfolding arrived
arrived_within n level s l h =
    record { levels = l; rows = omega arith; judged_lots = omega arith; windows = h.windows }

counted_within : (n : ℕ) (withheld : Bool) (s : LevelState) → LevelWithin n s → LevelWithin (n + 1) (counted withheld s)
unfolding counted lengthened judged_on_tightened shifted
counted_within n withheld s h =
    record {
      levels = h.levels;
      rows = either (λ (x : ℕ). x ≤ n + 1) withheld (omega arith) (omega arith);
      judged_lots = either (λ (x : ℕ). x ≤ n + 1) (eqb s.level tightened) (omega arith) (omega arith);
      windows = omega arith;
    }

level_after_within : (permits : Bool) (s : LevelState) → s.level ≤ 3 → level_after permits s ≤ 3
unfolding level_after after_normal after_tightened after_reduced
level_after_within permits s h =
    choose (eqb s.level normal)
    (choose (leb 2 (withheld_in s.window)) (omega arith) (choose (permits && leb 10 s.row) (omega arith) (omega arith)))
    (choose (eqb s.level tightened)
    (choose (leb 5 s.row) (omega arith) (choose (leb 10 s.judged) (omega arith) (omega arith)))
    (choose (eqb s.level reduced) (choose (eqb (s.window % 2) 1) (omega arith) (omega arith)) h))
  where
    choose : (b : Bool) {x y : ℕ} → x ≤ 3 → y ≤ 3 → cond b x y ≤ 3
    choose = either (λ (x : ℕ). x ≤ 3)

pub judged_lot_within : (n : ℕ) (permits withheld : Bool) (s : LevelState) → LevelWithin n s
    → LevelWithin (n + 1) (judged_lot permits withheld s)
unfolding judged_lot moved
judged_lot_within n permits withheld s h =
    let lot : LevelState = counted withheld s in
    let after : LevelWithin (n + 1) lot = counted_within n withheld s h in
    either (LevelWithin (n + 1)) (eqb (level_after permits lot) lot.level)
    after
    (arrived_within (n + 1) (level_after permits lot) lot (level_after_within permits lot after.levels) after)

pub met_stop_within : (n why days : ℕ) (s : LevelState) → LevelWithin n s → LevelWithin n (met_stop why days s)
unfolding met_stop
met_stop_within n why days s h =
    either (LevelWithin n) (eqb s.level reduced && (set_up_changed why || long_stop days))
    (arrived_within n normal s (omega arith) h)
    h

pub start_within : LevelWithin 0 level_start
unfolding level_start
start_within = omega arith
