-- A continuous stream (paper 01, "Continuous") as its replay carries it: what is left to be screened, the tail, and how many are
-- accepted. Assumes nothing.
use Rattle.std.specs.Prelude.{ℕ, ◌-◌, ◌≤◌, Bool, cond, eqb, ltb, Option}
use Rattle.plans.specs.declared.continuous.Continuous.{Continuous}
use Rattle.plans.specs.Continuous.{screening, sampling, is_sampling}
use Rattle.model.specs.declared.Plan.{Plan}
use Rattle.model.specs.declared.Figures.{Figures}
use Rattle.plans.specs.Limits.{within}
use Rattle.model.specs.Figuring.{no_level}
use Rattle.model.specs.declared.Entry.{Entry}
use Rattle.replaying.specs.Replaying.{tried, GoesOn, Tells}
use Rattle.replay_continuous.specs.declared.Place.{Place}

-- what a state leaves to be screened until clearance; 0 in sampling
unfoldable pub left_of : ℕ → Continuous → ℕ
left_of clearance s = cond (is_sampling s) 0 (clearance - s.count)

-- the state of which so many are left, with this tail
unfoldable pub state_of : ℕ → ℕ → ℕ → Continuous
state_of clearance left tail = cond (eqb left 0) (sampling tail) (screening (clearance - left))

-- the figures of a state; those of credit and level are foreign to a continuous stream, and zero, and no lot gives it a label
abbrev pub figures_with : Continuous → ℕ → Figures
figures_with state accepted =
    record {
      credit = record { 0 = 0 };
      level = no_level;
      continuous = state;
      accepted = accepted;
      above = 0;
    }

-- and of a place
unfoldable pub figures_in : ℕ → Place → Figures
figures_in clearance s = figures_with (state_of clearance s.left s.tail) s.accepted

-- and back
abbrev pub place_of : ℕ → Continuous → ℕ → Place
place_of clearance state accepted =
    record { left = left_of clearance state; tail = state.tail; accepted = accepted }

-- what 14 and 15 leave of a run where so many are left to be screened: of h right detections, then a wrong one or none
unfoldable pub fits_run : ℕ → ℕ → Bool → Bool
fits_run left h wrong = cond wrong (ltb h left) (within 1 left h)

-- the flag of a wrong one
abbrev pub flag_of : Bool → ℕ
flag_of wrong = cond wrong 1 0

-- a place of a stream with room for one entry more, and what an entry gives there
abbrev pub OnContinuous : Plan → Place → Type 0
OnContinuous p s = GoesOn 3 (figures_in p.a) (λ x. x.left ≤ p.a) p s

abbrev pub Gives : Plan → Place → Option Place → Entry → Type 0
Gives p s after e = Tells (figures_in p.a) (λ x. x.left ≤ p.a) after (tried p (figures_in p.a s) e)
