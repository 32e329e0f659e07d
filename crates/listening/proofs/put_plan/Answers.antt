-- What is lent is the stream's area, and it comes back as long as it was.
use Rattle.listening.proofs.Looking.{part_lent, part_back}
use Rattle.areas.proofs.Rewriting.{length_headed}
use Rattle.model.proofs.OnStore.{length_area_at}
use Rattle.listening.proofs.put_plan.Goals as goal

pub returns : goal.returns
returns c =
    let whole = length_area_at _ _ c.requires.0 c.requires.1 in
    rw (c.open_part.ensures, part_lent _ _ c.start_of-start.ensures)
    (part_back _ _ c.start_of-start.ensures _ (length_headed _ _ _ _ whole))
