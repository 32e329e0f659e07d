-- What the calls' functions hand to one another: what a call sees of a stream, what a write asks, and what is handed back. Assumes nothing.
use Rattle.std.specs.Prelude.{ℕ, ◌+◌, ◌<◌, ◌≡◌, cond, not, List, T, eqb, leb, length, Result, Err}
use Rattle.little.specs.Little.{part}
use Rattle.model.specs.declared.Plan.{Plan}
use Rattle.model.specs.declared.Part.{Part}
use Rattle.model.specs.declared.Figures.{Figures}
use Rattle.model.specs.Sizes.{most_records, streams, store_length}
use Rattle.model.specs.Stations.{valid_plan}
use Rattle.model.specs.Area.{reading}
use Rattle.model.specs.Store.{area_at}
use Rattle.records.specs.Records.{LevelFits}
use Rattle.rules.specs.declared.refusing.Refusal.{Refusal}
use Rattle.rules.specs.declared.refusing.Refusal.TheVariants.{StoreLength, Stream}
use Rattle.replay.specs.declared.Standing.{Standing}
use Rattle.replay.specs.Standing.{standing_of}

-- what a call sees of a stream, with the figures before so many of the newest entries: 1 where the store has another length, 2 where there
-- is no such stream, and else what the area says
unfoldable pub looked_at : ℕ → ℕ → List ℕ → Result Standing Refusal
looked_at newest stream store =
    cond (not (eqb (length store) store_length)) (Err StoreLength)
    (cond (leb streams stream) (Err Stream) (standing_of newest (reading (area_at stream store))))

-- what a write in a stream's area asks: the store is whole, the stream is one of its own, the plan is valid, an area has a place for a
-- record with that number, and the level figures are bytes
pub record MayWrite (store : List ℕ) (stream : ℕ) (p : Plan) (i : ℕ) (f : Figures) : Type 0 where
  pub whole : length store ≡ store_length
  pub known : stream < streams
  pub valid : T (valid_plan p)
  pub room : i < most_records
  pub fits : LevelFits f.level

-- a part of a lent store, by where the store points: where the part points, and its bytes
abbrev pub part_of : ℕ × ℕ → List ℕ → Part → (ℕ × ℕ) × List ℕ
part_of start store q = ((start.0, start.1 + q.offset), part q.offset q.length store)
