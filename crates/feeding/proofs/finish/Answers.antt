-- Without a byte of a line the definition comes to nothing too; with one it is that of a line that ended.
use Rattle.feeding.proofs.Laws.{nothing_left, something_left}
use Rattle.feeding.proofs.finish.Goals as goal

pub returns-then-line-eq0 : goal.returns-then-line-eq0
returns-then-line-eq0 c = nothing_left _ _ _ c.if-line-eq0.true

pub returns : goal.returns
returns c = something_left _ _ _ _ _ _ c.if-line-eq0.false c.end_line.ensures
