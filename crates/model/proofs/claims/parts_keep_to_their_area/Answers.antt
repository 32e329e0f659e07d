-- The law of `NewestRecords`: an accepted call found an opened stream, whose records the part takes from its area.
use Rattle.model.proofs.NewestRecords.{part_of_its_area}
use Rattle.model.proofs.claims.parts_keep_to_their_area.Goals as goal

pub returns : goal.returns
returns c = part_of_its_area
