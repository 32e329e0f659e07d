-- A record that holds no stop cannot stand.
use Rattle.replaying.proofs.LotStreams.{no_stop_entered}
use Rattle.replaying.proofs.take_stop.Goals as goal

pub returns-in_err-why : goal.returns-in_err-why
returns-in_err-why g c = search (no_stop_entered, c.in_err-why.ensures)
