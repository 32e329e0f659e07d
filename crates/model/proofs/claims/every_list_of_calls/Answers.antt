-- The law of `EveryList`, by induction over the list of calls: each stream's area stays that of its standing list.
use Rattle.model.proofs.EveryList.{every_list}
use Rattle.model.proofs.claims.every_list_of_calls.Goals as goal

pub returns : goal.returns
returns c = every_list
