-- The loop's invariant: the first k places of the array hold the first k arguments.
use mathlib.Core.Path.{◌≡◌, refl, sym, ap, ◌∙◌}
use native.Mathlib.Numerals.{add-one}
use native.Mathlib.Omega.{arith}
use lib.ListN.{length-set}
use lib.Seq.{take-suc-set, take_all}
use Rattle.numbering.specs.Numbers.{frame_arguments}
use Rattle.frame_text.specs.Frames.{word_digits, argument, arguments_to}
use Rattle.frame_text.proofs.Laws.{digits_part}
use Rattle.frame_text.proofs.arguments_in.Goals as goal

pub loop-k-init : goal.loop-k-init
unfolding arguments_to
loop-k-init c = (refl, refl)

pub word_at-requires : goal.word_at-requires
word_at-requires c = (omega arith, digits_part _ word_digits _ c.requires.1)

pub loop-k-preserved : goal.loop-k-preserved
unfolding arguments_to argument
loop-k-preserved c =
    let turn = c.loop-k in (
      rw length-set turn.invariant.0,
      rw (add-one turn.k, take-suc-set turn.argument-items turn.k c.word_at.result (omega arith), turn.invariant.1, c.word_at.ensures),
    )

pub returns : goal.returns
returns c =
    let turn = c.loop-k in
    let all : turn.k ≡ frame_arguments = omega arith in
    sym (take_all turn.k turn.argument-items (omega arith)) ∙ turn.invariant.1 ∙ ap (arguments_to _) all
