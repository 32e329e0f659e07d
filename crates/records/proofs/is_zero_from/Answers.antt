-- `records::is_zero_from` meets its contract. The loop's invariant: the windows that were passed are zero.
-- Assumes nothing.
use Rattle.std.proofs.Common.{arith, ◌-◌, length-drop, drop}
use Rattle.std.proofs.Math.Seq.{take_all}
use Rattle.model.specs.Sizes.{area_length}
use Rattle.records.proofs.Laws.{decided_not}
use Rattle.records.proofs.Windows.{window_differs, rest_decides}
use Rattle.records.proofs.is_zero_from.Goals as goal

pub returns-then-not-is_zero : goal.returns-then-not-is_zero
returns-then-not-is_zero c =
    let here = take_all (area_length - c.args.from) (drop c.args.from c.args.area.now) (omega (arith, length-drop c.args.from c.args.area.now)) in
    window_differs c.args.area.now c.args.from _ here c.as_chunks.ensures.front c.as_chunks.ensures.front_len c.loop-window.window-index c.loop-window-test.true
    (decided_not c.is_zero.ensures c.if-not-is_zero.true)

pub returns : goal.returns
returns c =
    let here = take_all (area_length - c.args.from) (drop c.args.from c.args.area.now) (omega (arith, length-drop c.args.from c.args.area.now)) in
    rest_decides c.args.area.now c.args.from _ here c.as_chunks.ensures.front c.as_chunks.ensures.front_len c.as_chunks.ensures.back
    (λ i h. c.loop-window.invariant i (omega arith)) c.is_zero-2.ensures
