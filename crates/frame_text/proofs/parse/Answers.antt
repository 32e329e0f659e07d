-- A line of another length, or with a byte that is no digit, is bad; in any other, the numbers are read off its digits.
use Rattle.frame_text.proofs.Laws.{digits_part}
use Rattle.frame_text.proofs.Words.{call_and_stream}
use Rattle.frame_text.specs.Digits.{all_digits}
use Rattle.frame_text.specs.Frames.{word_digits, call_number, stream_in, frame_of}
use Rattle.model.proofs.Booleans.{of_holds}
use mathlib.Core.Path.{◌≡◌, sym, ◌∙◌}
use mathlib.Core.Bool.{true}
use native.Mathlib.Omega.{arith}
use borrow.Author.Tests.{eq-eqb}
use Rattle.frame_text.proofs.parse.Goals as goal
use Rattle.frame_text.proofs.parse.Goals.{Else-not-all_digits}

digits : (c : Else-not-all_digits) → all_digits c.args.line.now ≡ true
digits c = sym c.all_digits.ensures ∙ c.if-not-all_digits.false

pub word_at-head-requires : goal.word_at-head-requires
word_at-head-requires c = (omega arith, digits_part 0 word_digits _ (of_holds _ (digits (goal.at.word_at-head-requires c).Else-not-all_digits)))

pub arguments_in-requires : goal.arguments_in-requires
arguments_in-requires c = (omega arith, of_holds _ (digits (goal.at.arguments_in-requires c).Else-not-all_digits))

pub returns : goal.returns
unfolding frame_of call_number stream_in
returns c =
    let tested = (goal.at.returns c).Else-not-all_digits in
    let head = call_and_stream _ (omega arith) (of_holds _ (digits tested)) in
    simp (eq-eqb _ _ tested.if-line-ne-FRAME_LENGTH.false, digits tested) (cc)
