-- The loop's invariant: some input came, of which the calls are made and the unfinished line is held.
use Prim.Native.Nat.{◌≤◌}
use mathlib.Core.Path.{◌≡◌, refl, sym, ap, ◌∙◌}
use lib.ListN.{length}
use lib.Seq.{length-take-le}
use Rattle.std.specs.Prelude.{Ok, Err}
use Rattle.std.proofs.lemmas.Result.{err_from_is_err_and}
use Rattle.frames.specs.declared.Turn.TheVariants.{More, Last}
use Rattle.frames.specs.declared.Failure.TheVariants.{Input}
use Rattle.frames.proofs.Laws.{Progress, no_turn, turn_fits, turn_more, turn_last, turn_failed, stopped, last_ends}
use Rattle.frames.proofs.run.Goals as goal
use Rattle.frames.proofs.run.Goals.{In-More, In-Last}

pub loop-init : goal.loop-init
loop-init c = no_turn _ _ c.requires.0 c.requires.1

pub returns-in_err-wrote : goal.returns-in_err-wrote
returns-in_err-wrote c =
    let failed = err_from_is_err_and c.from_residual.result c.from_residual.ensures.1 in
    turn_failed _ _ _ _ _ _ _ _ _ _ c.loop.invariant c.read_piece-got.ensures c.answer.ensures c.in_err-wrote.was _ (failed.1 ∙ ap Err failed.2)

-- where there is a text to print, what the answer was, and so that the text fits, and how far the input has come

more : (c : In-More) → c.answer.result ≡ Ok (More c.in-More.wrote)
more c = c.in_ok-wrote.was ∙ ap Ok c.in-More.is

last : (c : In-Last) → c.answer.result ≡ Ok (Last c.in-Last.wrote)
last c = c.in_ok-wrote.was ∙ ap Ok c.in-Last.is

more_fits : (c : In-More) → c.in-More.wrote ≤ length c.answer.new.out
more_fits c = rw (more c) at (turn_fits _ _ _ _ _ _ _ _ c.answer.ensures)

last_fits : (c : In-Last) → c.in-Last.wrote ≤ length c.answer.new.out
last_fits c = rw (last c) at (turn_fits _ _ _ _ _ _ _ _ c.answer.ensures)

more_came : (c : In-More) → Progress c.answer.new.store c.answer.new.line
more_came c = turn_more _ _ _ _ _ _ _ _ _ _ c.loop.invariant c.answer.ensures (more c)

pub slice_bounds-print-end : goal.slice_bounds-print-end
slice_bounds-print-end c = more_fits c

pub slice_bounds-print-end-in-More : goal.slice_bounds-print-end-in-More
slice_bounds-print-end-in-More c = sym (length-take-le _ _ (more_fits (goal.at.slice_bounds-print-end-in-More c).In-More))

pub slice_bounds-print-end-in-Last : goal.slice_bounds-print-end-in-Last
slice_bounds-print-end-in-Last c = last_fits c

pub slice_bounds-print-end-in-Last-2 : goal.slice_bounds-print-end-in-Last-2
slice_bounds-print-end-in-Last-2 c = sym (length-take-le _ _ (last_fits (goal.at.slice_bounds-print-end-in-Last-2 c).In-Last))

pub returns-in_err-print-in-More : goal.returns-in_err-print-in-More
returns-in_err-print-in-More c =
    let failed = err_from_is_err_and c.from_residual-in_err-print-in-More.result c.from_residual-in_err-print-in-More.ensures.1 in
    stopped _ _ (more_came (goal.at.returns-in_err-print-in-More c).In-More) _ (rw (failed.1, failed.2, c.in_err-print-in-More.ensures) refl)

pub returns-in-Last : goal.returns-in-Last
returns-in-Last c =
    let at-last = (goal.at.returns-in-Last c).In-Last in
    turn_last _ _ _ _ _ _ _ _ _ _ at-last.loop.invariant at-last.answer.ensures (last at-last) _ (last_ends _ c.print-in-Last.ensures)

pub loop-preserved : goal.loop-preserved
loop-preserved c = more_came (goal.at.loop-preserved c).In-More

pub returns : goal.returns
returns c = stopped _ _ c.loop.invariant (Err Input) refl
