-- Continuous sampling: paper 01, "Continuous"; document 000, 5.1.2.4.3 to 5.1.2.4.5. Assumes nothing.
use Rattle.std.specs.Prelude.{ℕ, ◌+◌, ◌-◌, Bool, cond, ◌&&◌, ◌||◌, eqb}
use Rattle.plans.specs.Stops.{set_up_changed, long_stop}
use Rattle.plans.specs.declared.continuous.Continuous.{Continuous}
use Rattle.plans.specs.declared.continuous.Block.{Block}

-- in screening every detection is heard; c of them right in an unbroken row
unfoldable pub screening : ℕ → Continuous
screening c = record { count = c; phase = 0; tail = 0 }

-- in sampling one in g is heard; u detections have passed since the last one heard
unfoldable pub sampling : ℕ → Continuous
sampling u = record { count = 0; phase = 1; tail = u }

unfoldable pub is_sampling : Continuous → Bool
is_sampling s = eqb s.phase 1

-- a run in screening: h right detections, then one wrong if there is one. At the clearance number sampling begins
unfoldable pub after_run : ℕ → ℕ → Bool → Continuous → Continuous
after_run clearance h wrong s =
    cond wrong (screening 0) (cond (eqb (s.count + h) clearance) (sampling 0) (screening (s.count + h)))

-- a block in sampling, of g detections, the p-th heard. Right: all g are accepted, and g - p have passed since.
-- Wrong: the block ends at p, and what passed unheard before it is heard back (each wrong one counts as critical, 5.1.2.4.5)
unfoldable pub after_block : ℕ → ℕ → Bool → Continuous → Block
after_block interval p wrong s =
    record {
      state = cond wrong (screening 0) (sampling (interval - p));
      accepted = cond wrong (p - 1) interval;
      hear_back = cond wrong (s.tail + p - 1) 0;
    }

-- a stop of why 2 gives screening from 0; one of more than 3 days does so in sampling, and in screening c stays
unfoldable pub after_stop : ℕ → ℕ → Continuous → Continuous
after_stop why days s = cond (set_up_changed why || is_sampling s && long_stop days) (screening 0) s
