-- A stream's figures, entry after entry: the forward rules of paper 01, "Credit lots", "Level lots" and "Continuous".
-- Assumes nothing.
use Rattle.std.specs.Prelude.{ℕ, ◌+◌, Bool, true, false, cond, List, [], ◌∷◌, eqb, ltb}
use Rattle.plans.specs.Credit.{credit_sample, credit_verdict, credit_after}
use Rattle.plans.specs.Verdicts.{level_verdict, accepted_of}
use Rattle.plans.specs.Tables.{level_sample}
use Rattle.plans.specs.Levels.{level_start, judged_lot, met_stop}
use Rattle.plans.specs.Continuous.{screening, after_run, after_block, after_stop}
use Rattle.plans.specs.declared.level.LevelState.{LevelState}
use Rattle.plans.specs.declared.continuous.Continuous.{Continuous}
use Rattle.model.specs.declared.Plan.{Plan}
use Rattle.model.specs.declared.Entry.{Entry}
use Rattle.model.specs.declared.Entry.TheVariants.{Lot, Run, Block, Stop}
use Rattle.model.specs.declared.Figures.{Figures}
use Rattle.model.specs.Stations.{is_credit, is_level, is_continuous, has_option}

-- the level figures of a stream that has none
unfoldable pub no_level : LevelState
no_level = record { level = 0; row = 0; judged = 0; window = 0 }

-- the figures of a new stream with this level state
abbrev pub with_level : LevelState → Figures
with_level level =
    record {
      credit = record { 0 = 0 };
      level = level;
      continuous = screening 0;
      accepted = 0;
      above = 0;
    }

-- the figures when a stream is opened; figures foreign to the plan are zero
unfoldable pub started : Plan → Figures
started p = with_level (cond (is_level p) level_start no_level)

-- the sample that a lot of size N asks for
unfoldable pub sample_asked : Plan → Figures → ℕ → ℕ
sample_asked p f N = cond (is_credit p) (credit_sample f.credit.0 p.ceiling N p.a) (level_sample p.a f.level.level N)

-- the verdict on a lot with d wrong in its sample
unfoldable pub verdict_on : Plan → Figures → ℕ → ℕ
verdict_on p f d = cond (is_credit p) (credit_verdict f.credit.0 (has_option p) d) (level_verdict d)

-- how many detections an entry has accepted
unfoldable pub accepted_by : Plan → Figures → Entry → ℕ
accepted_by p f (Lot label N n d D rec) = accepted_of (verdict_on p f d) N D
accepted_by p f (Run h w rec) = h
accepted_by p f (Block q w rec) = (after_block p.b q (eqb w 1) f.continuous).accepted
accepted_by p f (Stop why days) = 0

unfoldable pub credit_step : Plan → Entry → ℕ → ℕ
credit_step p (Lot label N n d D rec) K = cond (is_credit p) (credit_after K N d) K
credit_step p (Run h w rec) K = K
credit_step p (Block q w rec) K = K
credit_step p (Stop why days) K = K

unfoldable pub level_step : Plan → Entry → LevelState → LevelState
level_step p (Lot label N n d D rec) s = cond (is_level p) (judged_lot (has_option p) (ltb 0 d) s) s
level_step p (Run h w rec) s = s
level_step p (Block q w rec) s = s
level_step p (Stop why days) s = cond (is_level p) (met_stop why days s) s

unfoldable pub continuous_step : Plan → Entry → Continuous → Continuous
continuous_step p (Lot label N n d D rec) s = s
continuous_step p (Run h w rec) s = after_run p.a h (eqb w 1) s
continuous_step p (Block q w rec) s = (after_block p.b q (eqb w 1) s).state
continuous_step p (Stop why days) s = cond (is_continuous p) (after_stop why days s) s

unfoldable pub is_lot : Entry → Bool
is_lot (Lot label N n d D rec) = true
is_lot (Run h w rec) = false
is_lot (Block q w rec) = false
is_lot (Stop why days) = false

unfoldable pub label_of : Entry → ℕ
label_of (Lot label N n d D rec) = label
label_of (Run h w rec) = 0
label_of (Block q w rec) = 0
label_of (Stop why days) = 0

-- the figures after one entry more
unfoldable pub stepped : Plan → Entry → Figures → Figures
stepped p e f =
    record {
      credit = record { 0 = credit_step p e f.credit.0 };
      level = level_step p e f.level;
      continuous = continuous_step p e f.continuous;
      accepted = f.accepted + accepted_by p f e;
      above = cond (is_lot e) (label_of e + 1) f.above;
    }

-- the figures of a stream with these standing entries
unfoldable pub figures_of : Plan → List Entry → Figures
figures_of p [] = started p
figures_of p (e ∷ es) = stepped p e (figures_of p es)
