-- How far lots can take a level stream's state: paper 01, "The store", bytes 20 to 23. The rules never ask how high a row or a count
-- may grow; what keeps each in its byte is that so few lots stand. Assumes nothing.
use Rattle.std.specs.Prelude.{ℕ, ◌≤◌, ◌<◌}
use Rattle.plans.specs.Severities.{discontinued}
use Rattle.plans.specs.declared.level.LevelState.{LevelState}

-- as many lots as a byte counts
abbrev pub most_counted : ℕ
most_counted = 255

-- a state that at most n lots have made
pub record LevelWithin (n : ℕ) (s : LevelState) : Type 0 where
  pub levels : s.level ≤ discontinued
  pub rows : s.row ≤ n
  pub judged_lots : s.judged ≤ n
  pub windows : s.window < 32
