-- The arrays are made of zeros: a fresh store.
use mathlib.Core.Path.{refl}
use lib.Dec.{lit≤}
use Rattle.model.specs.Store.{fresh}
use Rattle.frames.proofs.main.Goals as goal

pub run-requires : goal.run-requires
unfolding fresh
run-requires c = (refl, c.new-line.ensures, record { piece_room = lit≤ tt; last_room = lit≤ tt })
