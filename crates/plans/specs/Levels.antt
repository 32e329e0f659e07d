-- Level lots, the moves between levels: paper 01, "Level lots", with its house numbers; document 000, 5.1.1.6.2 to 5.1.1.6.5.
-- Assumes nothing.
use Rattle.std.specs.Prelude.{ℕ, ◌+◌, ◌*◌, ◌/◌, ◌%◌, Bool, cond, ◌&&◌, ◌||◌, eqb, leb}
use Rattle.plans.specs.Severities.{reduced, normal, tightened, discontinued}
use Rattle.plans.specs.Stops.{set_up_changed, long_stop}
use Rattle.plans.specs.declared.level.LevelState.{LevelState}

-- a level stream starts at normal
unfoldable pub level_start : LevelState
level_start = record { level = normal; row = 0; judged = 0; window = 0 }

-- the unbroken row with one lot more
unfoldable pub lengthened : Bool → ℕ → ℕ
lengthened withheld row = cond withheld 0 (row + 1)

-- the lots judged on tightened with one lot more, 0 at other levels
unfoldable pub judged_on_tightened : ℕ → ℕ → ℕ
judged_on_tightened level judged = cond (eqb level tightened) (judged + 1) 0

-- the window's five bits with one lot more, newest in bit 0
unfoldable pub shifted : Bool → ℕ → ℕ
shifted withheld window = (2 * window + cond withheld 1 0) % 32

-- how many of the last five lots were withheld
unfoldable pub withheld_in : ℕ → ℕ
withheld_in window = window % 2 + window / 2 % 2 + window / 4 % 2 + window / 8 % 2 + window / 16 % 2

-- bytes 21 to 23 with one lot more, judged at the state's level
unfoldable pub counted : Bool → LevelState → LevelState
counted withheld s =
    record {
      level = s.level;
      row = lengthened withheld s.row;
      judged = judged_on_tightened s.level s.judged;
      window = shifted withheld s.window;
    }

-- arriving sets bytes 21 and 22 to 0 and keeps byte 23
unfoldable pub arrived : ℕ → LevelState → LevelState
arrived level s = record { level = level; row = 0; judged = 0; window = s.window }

-- the level after a lot, which s has counted, by the level at which it was judged

-- 5.1.1.6.2 a); 5.1.1.6.4 a), with option 1 for b) to d)
unfoldable pub after_normal : Bool → LevelState → ℕ
after_normal permits_reduced s =
    cond (leb 2 (withheld_in s.window)) tightened (cond (permits_reduced && leb 10 s.row) reduced normal)

-- 5.1.1.6.3 b); ten lots judged there (house, in place of 5.1.1.6.6 a))
unfoldable pub after_tightened : LevelState → ℕ
after_tightened s = cond (leb 5 s.row) normal (cond (leb 10 s.judged) discontinued tightened)

-- 5.1.1.6.5 a)
unfoldable pub after_reduced : LevelState → ℕ
after_reduced s = cond (eqb (s.window % 2) 1) normal reduced

-- no lot is judged on a discontinued stream (refusal 8)
unfoldable pub level_after : Bool → LevelState → ℕ
level_after permits_reduced s =
    cond (eqb s.level normal) (after_normal permits_reduced s)
    (cond (eqb s.level tightened) (after_tightened s)
    (cond (eqb s.level reduced) (after_reduced s) s.level))

-- a state stays as it is at its own level, and arrives at another
unfoldable pub moved : ℕ → LevelState → LevelState
moved level s = cond (eqb level s.level) s (arrived level s)

-- a lot is judged: it is counted, and then the level may move, once
unfoldable pub judged_lot : Bool → Bool → LevelState → LevelState
judged_lot permits_reduced withheld s = moved (level_after permits_reduced (counted withheld s)) (counted withheld s)

-- on reduced, a stop of why 2 or of more than 3 days leads to normal (house); elsewhere a stop changes nothing
unfoldable pub met_stop : ℕ → ℕ → LevelState → LevelState
met_stop why days s = cond (eqb s.level reduced && (set_up_changed why || long_stop days)) (arrived normal s) s
