-- A line as a frame: paper 01, "Hexadecimal frames". "One frame a line, 44 lower-case digits: call (1 Open to 8 Read, in the order
-- above), stream, five 32-bit arguments, big end first, unused ones 0." With two arguments more at the end it has 60 digits, and the call
-- may be 9: paper 02, card 1. Assumes nothing.
use Rattle.std.specs.Prelude.{ℕ, zero, suc, ◌+◌, ◌*◌, cond, ◌&&◌, List, [], ◌∷◌, ◌++◌, eqb, length, Option, None}
use Rattle.little.specs.Little.{part}
use Rattle.numbering.specs.declared.Frame.{Frame}
use Rattle.numbering.specs.Numbers.{frame_arguments, numbered}
use Rattle.frame_text.specs.Digits.{all_digits, hex_value}

-- the digits of a call, a stream or a refusal
abbrev pub byte_digits : ℕ
byte_digits = 2

-- the digits of a 32-bit number
abbrev pub word_digits : ℕ
word_digits = 8

-- 60
abbrev pub frame_length : ℕ
frame_length = byte_digits + byte_digits + word_digits * frame_arguments

-- a frame's parts

unfoldable pub call_number : List ℕ → ℕ
call_number line = hex_value (part 0 byte_digits line)

unfoldable pub stream_in : List ℕ → ℕ
stream_in line = hex_value (part byte_digits byte_digits line)

-- argument k, from 0 on
unfoldable pub argument : List ℕ → ℕ → ℕ
argument line k = hex_value (part (byte_digits + byte_digits + word_digits * k) word_digits line)

-- the first k arguments
unfoldable pub arguments_to : List ℕ → ℕ → List ℕ
arguments_to line zero = []
arguments_to line (suc k) = arguments_to line k ++ (argument line k ∷ [])

-- a line of exactly a frame's digits is the frame that its numbers make, if they make one; any other line is none
unfoldable pub frame_of : List ℕ → Option Frame
frame_of line =
    cond (eqb (length line) frame_length && all_digits line)
    (numbered (call_number line) (stream_in line) (arguments_to line frame_arguments)) None
