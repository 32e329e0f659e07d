-- A line feed ends the line, and the buffer is cleared; any other byte is kept.
use Rattle.feeding.proofs.Laws.{fed_line, going_on}
use Rattle.feeding.proofs.take_byte.Goals as goal

pub returns-then-byte-ne-LINE_FEED : goal.returns-then-byte-ne-LINE_FEED
returns-then-byte-ne-LINE_FEED c = going_on _ _ _ _ _ c.if-byte-ne-LINE_FEED.true c.keep.ensures

pub returns : goal.returns
returns c = fed_line _ _ _ _ _ _ _ _ c.if-byte-ne-LINE_FEED.false (rw c.bytes.ensures at c.end_line-wrote.ensures) c.clear.ensures
