-- The newest record goes, and the figures before it are written.
use Rattle.listening.proofs.Making.{back_may, back_made}
use Rattle.listening.proofs.try_back.Goals as goal

pub take_entry-kind-requires-clause-may : goal.take_entry-kind-requires-clause-may
take_entry-kind-requires-clause-may c = back_may _ _ _ c.in_ok-standing.ensures c.if-standing-eq0.false

pub returns : goal.returns
returns c =
    back_made _ _ _ c.in_ok-standing.ensures c.if-standing-eq0.false _ _ _ c.gives.ensures c.take_entry-kind.ensures.kind
    c.take_entry-kind.ensures.left
