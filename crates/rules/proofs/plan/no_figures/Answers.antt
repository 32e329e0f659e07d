use Rattle.rules.proofs.Zeros.{zero_figures}
use Rattle.rules.proofs.plan.no_figures.Goals as goal

pub returns : goal.returns
returns c = zero_figures c.default.result c.default.ensures
