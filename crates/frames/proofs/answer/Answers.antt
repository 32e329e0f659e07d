-- Where the read failed, nothing is done.
use Rattle.frames.proofs.Laws.{read_failed}
use Rattle.frames.proofs.answer.Goals as goal

pub returns-in_err-n : goal.returns-in_err-n
returns-in_err-n c = read_failed _ _ _ _ _ _ _ c.in_err-n.was c.from_residual.ensures.1
