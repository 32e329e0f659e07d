-- What is lent is the stream's area, and it comes back as long as it was.
use Rattle.listening.proofs.Looking.{part_lent, part_back}
use Rattle.areas.proofs.Rewriting.{length_rewritten}
use Rattle.model.proofs.AreaReading.{length_record}
use Rattle.model.proofs.OnStore.{length_area_at}
use Rattle.listening.proofs.put_entry.Goals as goal

pub returns : goal.returns
returns c =
    let whole = length_area_at _ _ c.requires.whole c.requires.known in
    rw (c.put_in_part.ensures, part_lent _ _ c.start_of-start.ensures)
    (part_back _ _ c.start_of-start.ensures _ (length_rewritten _ _ _ _ _ _ c.requires.room (length_record _) whole))
