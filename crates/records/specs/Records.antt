-- Where a record stands in an area, which plans and level figures fit their bytes, and what a test decides. The clauses of `src/` cite these.
-- Assumes nothing.
use Rattle.std.specs.Prelude.{ℕ, ◌*◌, ◌<◌, ◌≡◌, Bool, true, List}
use Rattle.little.specs.Little.{part}
use Rattle.plans.specs.declared.level.LevelState.{LevelState}
use Rattle.model.specs.declared.Plan.{Plan}
use Rattle.model.specs.Sizes.{record_length, header_length, most_records}

-- the bytes of an area's i-th record, from 0
unfoldable pub record_at : List ℕ → ℕ → List ℕ
record_at area i = part (record_length * i) record_length (part header_length (record_length * most_records) area)

-- a plan and a count of records that fit their bytes
pub record PlanFits (p : Plan) (count : ℕ) : Type 0 where
  pub kinds : p.kind < 256
  pub options : p.option < 256
  pub intervals : p.b < 65536
  pub counts : count < 65536

-- a level state whose numbers are bytes
pub record LevelFits (s : LevelState) : Type 0 where
  pub levels : s.level < 256
  pub rows : s.row < 256
  pub judged_lots : s.judged < 256
  pub windows : s.window < 256

-- a test's answer, and what it tests
pub record Decides (b : Bool) (P : Type 0) : Type 0 where
  pub shows : b ≡ true → P
  pub shown : P → b ≡ true
