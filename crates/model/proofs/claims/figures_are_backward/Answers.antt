-- The law of `Stored`, from the inductions of `Backward` over the entries: an admissible station has a valid plan, and entries that were
-- accepted.
use Rattle.model.proofs.Keeping.{plan_of_lem, entries_of}
use Rattle.model.proofs.Stored.{figures_backward}
use Rattle.model.proofs.claims.figures_are_backward.Goals as goal

pub returns : goal.returns
returns c = λ p es t. figures_backward p es (plan_of_lem p es t) (entries_of p es t)
