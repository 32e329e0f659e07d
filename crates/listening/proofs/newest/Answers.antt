-- The part is inside the store, whatever the store is.
use Rattle.listening.proofs.Making.{part_taken}
use Rattle.listening.proofs.newest.Goals as goal

pub returns : goal.returns
returns c = part_taken _ _ _ _ c.newest_part-found.ensures _
