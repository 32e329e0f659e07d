-- The figures stored in a station's area are those worked out backwards from its standing entries. Assumes nothing.
use mathlib.Core.Path.{ap, ◌∙◌}
use mathlib.Core.List.{List}
use native.Mathlib.Omega.{arith}
use lib.Dec.{T}
use Rattle.little.specs.Little.{bytes, part}
use Rattle.little.proofs.Laws.{value_bytes}
use Rattle.plans.specs.declared.continuous.Continuous.{Continuous}
use Rattle.model.specs.declared.Plan.{Plan}
use Rattle.model.specs.declared.Entry.{Entry}
use Rattle.model.specs.Stations.{opened, valid_plan}
use Rattle.model.specs.Figuring.{no_level, figures_of}
use Rattle.model.specs.Calls.{admissible}
use Rattle.model.specs.Area.{header_of, area_of}
use Rattle.model.specs.Claims.{FiguresBackward}
use Rattle.model.proofs.Backward.{credit_backward, window_backward, level_foreign, all_continuous_backward}
use Rattle.model.proofs.FigureBounds.{figures_within}
use Rattle.model.proofs.Allowed.{count_within}

-- the first 48 bytes are computed, so that each figure is found at its offset
pub figures_backward : (p : Plan) (es : List Entry) → T (valid_plan p) → T (admissible p es)
    → FiguresBackward p es (area_of (opened p es))
unfolding area_of header_of bytes part no_level
figures_backward p es valid ok =
    let within = figures_within p es valid ok in
    let most = count_within p es ok in
    let continuous = all_continuous_backward p es valid ok in
    record {
      credit = value_bytes 4 {n = (figures_of p es).credit.0} (omega arith) ∙ credit_backward p es;
      window = window_backward p es;
      count = value_bytes 4 {n = (figures_of p es).continuous.count} (omega arith) ∙ ap (λ (s : Continuous). s.count) continuous;
      phase = ap (λ (s : Continuous). s.phase) continuous;
      tail = value_bytes 2 {n = (figures_of p es).continuous.tail} (omega arith) ∙ ap (λ (s : Continuous). s.tail) continuous;
      no_level = λ e. rw (level_foreign p es e);
    }
