-- What an area says, as the code tells it. Assumes nothing.
use Rattle.std.specs.Prelude.{ℕ, ◌≤◌, true, List, ◌≡◌, T, length, drop, get_or, Result, Ok, Err}
use Rattle.model.specs.declared.Plan.{Plan}
use Rattle.model.specs.Sizes.{header_length, area_length, most_records}
use Rattle.model.specs.Stations.{unopened, opened, valid_plan}
use Rattle.model.specs.Figuring.{figures_of}
use Rattle.little.specs.Little.{part}
use Rattle.model.specs.Area.{header_of, plan_in, count_in, Reading, unsound, holds}
use Rattle.replaying.specs.Replaying.{figures_to, stand_to}
use Rattle.rules.specs.declared.refusing.Refusal.{Refusal}
use Rattle.rules.specs.declared.refusing.Refusal.TheVariants.{Unsound, Unopened}
use Rattle.replay.specs.declared.Standing.{Standing}

-- what a reading says: the station, with the figures before so many of the newest entries, or the refusal of every call but Open
unfoldable pub standing_of : ℕ → Reading → Result Standing Refusal
standing_of newest unsound = Err Unsound
standing_of newest (holds unopened) = Err Unopened
standing_of newest (holds (opened p es)) = Ok (record { plan = p; figures = figures_of p (drop newest es); count = length es })

-- an area whose header has a plan that is valid and a count that fits
pub record Headed (area : List ℕ) (plan : Plan) (count : ℕ) : Type 0 where
  pub whole : length area ≡ area_length
  pub kind : get_or area 0 0 ≡ 0 → ⊥
  pub planned : plan ≡ plan_in area
  pub valid : T (valid_plan plan)
  pub counted : count ≡ count_in area
  pub room : count ≤ most_records

-- each of an area's first records stands, and its header is that of a stream with this plan and these records
pub record HeaderFits (p : Plan) (area : List ℕ) (count : ℕ) : Type 0 where
  pub stand : stand_to p area count ≡ true
  pub stored : part 0 header_length area ≡ header_of p count (figures_to p area count)
