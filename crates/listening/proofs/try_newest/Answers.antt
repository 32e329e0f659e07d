-- As many as the count says or stand.
use native.Mathlib.Omega.{arith}
use Rattle.listening.proofs.Making.{newest_made}
use Rattle.listening.proofs.try_newest.Goals as goal

pub returns : goal.returns
returns c = newest_made _ _ _ c.in_ok-standing.ensures c.args.count _ (omega arith) _ c.gives.ensures
