-- What is lent is the stream's area, and it comes back as long as it was.
use Rattle.listening.proofs.Looking.{part_lent, part_back}
use Rattle.areas.proofs.Rewriting.{length_rewritten}
use Rattle.model.proofs.OnStore.{length_area_at}
use mathlib.Core.Path.{refl}
use Rattle.listening.proofs.take_entry.Goals as goal

pub returns-clause-kind : goal.returns-clause-kind
returns-clause-kind c = rw (part_lent _ _ c.start_of-start.ensures) at c.take_from_part.ensures.0

pub returns-clause-left : goal.returns-clause-left
returns-clause-left c =
    let may = c.requires.may in
    let whole = length_area_at _ _ may.whole may.known in
    rw (c.take_from_part.ensures.1, part_lent _ _ c.start_of-start.ensures)
    (part_back _ _ c.start_of-start.ensures _ (length_rewritten _ _ _ _ _ _ may.room refl whole))
