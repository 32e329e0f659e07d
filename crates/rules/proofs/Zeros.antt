-- The default of figures: each number of them is zero. Written out number by number, they are joined by congruence.
use Rattle.std.specs.Prelude.{◌≡◌}
use Rattle.plans.specs.Continuous.{screening}
use Rattle.model.specs.declared.Figures.{Figures}
use Rattle.model.specs.Figuring.{with_level, no_level}

-- what the default of figures promises
abbrev pub Zeros : Figures → Type 0
Zeros f =
    (f.above ≡ 0)
    × ((f.accepted ≡ 0)
    × (((f.continuous.count ≡ 0) × ((f.continuous.phase ≡ 0) × (f.continuous.tail ≡ 0)))
    × ((f.credit.0 ≡ 0)
    × ((f.level.level ≡ 0) × ((f.level.row ≡ 0) × ((f.level.judged ≡ 0) × (f.level.window ≡ 0)))))))

-- figures, number by number
abbrev written_out : Figures → Figures
written_out f =
    record {
      credit = record { 0 = f.credit.0 };
      level = record { level = f.level.level; row = f.level.row; judged = f.level.judged; window = f.level.window };
      continuous = record { count = f.continuous.count; phase = f.continuous.phase; tail = f.continuous.tail };
      accepted = f.accepted;
      above = f.above;
    }

all_zero : (f : Figures) → Zeros f → written_out f ≡ with_level no_level
unfolding screening no_level
all_zero f z =
    cc (
      z.0,
      z.1.0,
      z.1.1.0.0,
      z.1.1.0.1.0,
      z.1.1.0.1.1,
      z.1.1.1.0,
      z.1.1.1.1.0,
      z.1.1.1.1.1.0,
      z.1.1.1.1.1.1.0,
      z.1.1.1.1.1.1.1,
    )

pub zero_figures : (f : Figures) → Zeros f → f ≡ with_level no_level
zero_figures f z = all_zero f z
