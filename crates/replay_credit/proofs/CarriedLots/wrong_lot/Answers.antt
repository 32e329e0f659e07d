-- No more is accepted than the lot holds.
use Rattle.replay_credit.proofs.Steps.{wrong_at_most}
use Rattle.replay_credit.proofs.CarriedLots.wrong_lot.Goals as goal

pub accepted_of-requires : goal.accepted_of-requires
accepted_of-requires c = search wrong_at_most
