-- The loop keeps what the calls up to i make of the store and the answers; a turn makes one call more.
use Rattle.std.proofs.Common.{◌≡◌, ◌+◌, ◌-◌, ◌*◌, length, take_all, arith, sym, ap, ◌∙◌}
use borrow.Rule.Slice.PartMut.{put_mid}
use Rattle.lists.specs.Lists.{answer_length}
use Rattle.lists.proofs.ListLaws.{none_made, next_made, made_all, request_next}
use Rattle.lists.proofs.make_all.Goals as goal

pub loop-i-init : goal.loop-i-init
loop-i-init c = none_made c.args.store.now c.args.answers.now

pub loop-i-preserved : goal.loop-i-preserved
loop-i-preserved c =
    let i = c.loop-i.i in
    let size : answer_length * i + answer_length - answer_length * i ≡ answer_length = omega arith in
    rw (request_next c.args.calls.now i c.loop-i-test.true (sym c.frame_of.ensures ∙ c.unwrap-stream.ensures))
    (next_made c.loop-i.invariant _ c.make-answer.ensures (c.copy_from_slice.ensures.after ∙ c.numbers_of.ensures)
    (ap (λ n. put_mid (answer_length * i) n c.loop-i.answers c.copy_from_slice.new.self) size))

pub returns : goal.returns
returns c =
    let calls = c.args.calls.now in
    let all : c.loop-i.i ≡ length calls = omega arith in
    made_all (rw (take_all c.loop-i.i calls (omega arith)) at c.loop-i.invariant) (omega arith)
