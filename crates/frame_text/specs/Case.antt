-- The whole case of paper 01, "Hexadecimal frames", byte by byte: four lines in, four lines out. Paper 02, card 1, makes the lines longer
-- by a recording's two arguments: "The lots, runs and blocks in 01's cases bring recording 1, second 0". Assumes nothing.
use Rattle.std.specs.Prelude.{ℕ, ◌≡◌, List, [], ◌∷◌, ◌++◌, replicate}
use Rattle.frame_text.specs.Program.{output}

-- so many digits 0
abbrev pub zero_digits : ℕ → List ℕ
zero_digits n = replicate n 48

-- 0100000000010000000000003a9800000000000000000000000000000000
unfoldable pub open_line : List ℕ
open_line = (48 ∷ 49 ∷ []) ++ zero_digits 9 ++ (49 ∷ []) ++ zero_digits 12 ++ (51 ∷ 97 ∷ 57 ∷ 56 ∷ []) ++ zero_digits 32 ++ (10 ∷ [])

-- 020000000001000000c90000003300000000000000000000000100000000
unfoldable pub lot_line : List ℕ
lot_line = (48 ∷ 50 ∷ []) ++ zero_digits 9 ++ (49 ∷ []) ++ zero_digits 6 ++ (99 ∷ 57 ∷ []) ++ zero_digits 6 ++ (51 ∷ 51 ∷ []) ++ zero_digits 23 ++ (49 ∷ []) ++ zero_digits 8 ++ (10 ∷ [])

-- 0700000000c0000000000000000000000000000000000000000000000000
unfoldable pub ask_line : List ℕ
ask_line = (48 ∷ 55 ∷ []) ++ zero_digits 8 ++ (99 ∷ []) ++ zero_digits 49 ++ (10 ∷ [])

-- 060000000000000000000000000000000000000000000000000000000000
unfoldable pub back_line : List ℕ
back_line = (48 ∷ 54 ∷ []) ++ zero_digits 58 ++ (10 ∷ [])

unfoldable pub case_input : List ℕ
case_input = open_line ++ lot_line ++ ask_line ++ back_line

-- 00000000000000000000000000
unfoldable pub open_answer : List ℕ
open_answer = zero_digits 26 ++ (10 ∷ [])

-- 0000000001000000c9000000c9
unfoldable pub lot_answer : List ℕ
lot_answer = zero_digits 9 ++ (49 ∷ []) ++ zero_digits 6 ++ (99 ∷ 57 ∷ []) ++ zero_digits 6 ++ (99 ∷ 57 ∷ []) ++ (10 ∷ [])

-- 000000001c0000000000000000
unfoldable pub ask_answer : List ℕ
ask_answer = zero_digits 8 ++ (49 ∷ 99 ∷ []) ++ zero_digits 16 ++ (10 ∷ [])

-- 00000000010000000000000000
unfoldable pub back_answer : List ℕ
back_answer = zero_digits 9 ++ (49 ∷ []) ++ zero_digits 16 ++ (10 ∷ [])

unfoldable pub case_output : List ℕ
case_output = open_answer ++ lot_answer ++ ask_answer ++ back_answer

abbrev pub WholeCase : Type 0
WholeCase = output case_input ≡ case_output
