-- Paper 01's whole case holds. Its lines are the calls of `frame_case`, whose answers the model works out; here these are put into text,
-- and so the output is the texts of the answers to the calls. Assumes nothing.
use Prim.Native.Nat.{ℕ}
use mathlib.Core.Path.{ap}
use mathlib.Core.List.{List, [], ◌∷◌, ◌++◌}
use Rattle.little.specs.Little.{part}
use Rattle.model.specs.declared.Answer.{Answer}
use Rattle.plans.specs.Limits.{within}
use Rattle.model.specs.Store.{answers_to}
use Rattle.model.specs.Claims.{on_all}
use Rattle.model.specs.Cases.{calls_of, answers_of, frame_case}
use Rattle.model.proofs.CallCases.{cases_hold_lem}
use Rattle.numbering.specs.Numbers.{is_recording_slot, uses, unused_zero, numbered}
use Rattle.frame_text.specs.Digits.{digit, all_digits, digit_value, digit_of, gone_on, hex_value, digits_of}
use Rattle.frame_text.specs.Frames.{call_number, stream_in, argument, arguments_to, frame_of}
use Rattle.frame_text.specs.Answers.{answer_text}
use Rattle.frame_text.specs.Program.{before, lines, on_frame, on_line, output_from, output}
use Rattle.frame_text.specs.Case.{
  open_line,
  lot_line,
  ask_line,
  back_line,
  open_answer,
  lot_answer,
  ask_answer,
  back_answer,
  case_input,
  case_output,
  WholeCase,
}

texts : List Answer → List ℕ
texts [] = []
texts (a ∷ answers) = answer_text a ++ texts answers

pub whole_case : WholeCase
unfolding
    texts answers_to on_all calls_of answers_of frame_case part within
    digit all_digits digit_value digit_of gone_on hex_value digits_of call_number stream_in argument arguments_to
    is_recording_slot uses unused_zero numbered frame_of
    answer_text before lines on_frame on_line output_from output
    open_line lot_line ask_line back_line open_answer lot_answer ask_answer back_answer case_input case_output
whole_case = ap texts cases_hold_lem.0
