-- The bytes that were kept are zeros now, as those behind them were.
use mathlib.Core.Path.{◌≡◌, ap, ◌∙◌}
use native.Mathlib.Omega.{arith}
use lib.Seq.{length-take-le}
use Rattle.model.specs.Area.{zeros}
use Rattle.feeding.proofs.Laws.{cleared}
use Rattle.feeding.proofs.line.Line.clear.Goals as goal

pub invariant_of-self : goal.invariant_of-self
invariant_of-self c =
    let filled : c.fill.new.self ≡ zeros c.self.inside.have = c.fill.ensures.after (λ y e. e) ∙ ap zeros (length-take-le _ _ (omega (arith, c.self.invariant.short))) in
    rw filled (cleared _ _ _ c.self.invariant)
