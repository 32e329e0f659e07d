-- Stations: a plan with Open's arguments, and the standing entries. Paper 01, "The store" and "Calls", and paper 02, cards 1 and 3. Assumes
-- nothing.
use Rattle.std.specs.Prelude.{ℕ, ◌^◌, Bool, true, cond, ◌&&◌, List, [], ◌∷◌, eqb, leb, ltb}
use Rattle.plans.specs.Limits.{largest_aoql, largest_ceiling, verification_levels, largest_clearance, largest_interval, within}
use Rattle.model.specs.declared.Plan.{Plan}
use Rattle.model.specs.declared.Entry.{Entry}
use Rattle.model.specs.declared.Entry.TheVariants.{Lot, Run, Block, Stop}
use Rattle.model.specs.declared.Call.{Call}
use Rattle.model.specs.declared.Call.TheVariants.{Open, Enter, Back, Ask, Read, Newest}

-- a stream is unopened, or opened with a plan, and then has standing entries, newest first
pub data Station : Type 0 where
  unopened : Station
  opened : Plan → List Entry → Station

-- Open's arguments as a plan
abbrev pub plan_of : ℕ → ℕ → ℕ → ℕ → ℕ → Plan
plan_of kind option a b ceiling = record { kind = kind; option = option; a = a; b = b; ceiling = ceiling }

unfoldable pub is_credit : Plan → Bool
is_credit p = eqb p.kind 1

unfoldable pub is_level : Plan → Bool
is_level p = eqb p.kind 2

unfoldable pub is_continuous : Plan → Bool
is_continuous p = eqb p.kind 3

-- option 1: all of a wrong credit lot is heard; reduced is permitted to a level stream
unfoldable pub has_option : Plan → Bool
has_option p = eqb p.option 1

-- "Calls", Open: the ranges of A and B by kind; option 0 or 1, in kind 3 only 0
unfoldable pub valid_ranges : Plan → Bool
valid_ranges p =
    cond (is_credit p) (within 1 largest_aoql p.a && eqb p.b 0 && leb p.option 1)
    (cond (is_level p) (within 1 verification_levels p.a && eqb p.b 0 && leb p.option 1)
    (is_continuous p && within 1 largest_clearance p.a && within 2 largest_interval p.b && eqb p.option 0))

-- paper 02, card 3: only a credit plan may set a ceiling, and none above the range
unfoldable pub valid_ceiling : Plan → Bool
valid_ceiling p = cond (is_credit p) (leb p.ceiling largest_ceiling) (eqb p.ceiling 0)

-- what 5 leaves
unfoldable pub valid_plan : Plan → Bool
valid_plan p = valid_ranges p && valid_ceiling p

-- the arguments in the order of "Calls", then those of paper 02: an entry's recording (card 1), Open's ceiling (card 3)
unfoldable pub entry_arguments : Entry → List ℕ
entry_arguments (Lot label N n d D rec) = label ∷ N ∷ n ∷ d ∷ D ∷ rec.number ∷ rec.second ∷ []
entry_arguments (Run h w rec) = h ∷ w ∷ rec.number ∷ rec.second ∷ []
entry_arguments (Block q w rec) = q ∷ w ∷ rec.number ∷ rec.second ∷ []
entry_arguments (Stop why days) = why ∷ days ∷ []

unfoldable pub arguments : Call → List ℕ
arguments (Open p) = p.kind ∷ p.option ∷ p.a ∷ p.b ∷ p.ceiling ∷ []
arguments (Enter e) = entry_arguments e
arguments Back = []
arguments (Ask N) = N ∷ []
arguments Read = []
arguments (Newest count) = count ∷ []

-- arguments are 32-bit numbers
unfoldable pub all_words : List ℕ → Bool
all_words [] = true
all_words (n ∷ ns) = ltb n (2 ^ 32) && all_words ns
