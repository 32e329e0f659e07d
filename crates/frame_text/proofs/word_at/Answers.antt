-- `Words` has what the eight digits are after each joining of neighbours, and so their value; what is left here is that no sum or product
-- overflows, since each number has room for as many bits more.
use Prim.Native.Nat.{◌/◌, ◌≤◌}
use native.Mathlib.Omega.{arith}
use lib.Bits.{and_le_r}
use Rattle.little.proofs.Laws.{length_part}
use Rattle.frame_text.proofs.Words.{ones_in, ones_small, twos_small, fours_small, word_in_lem}
use Rattle.frame_text.proofs.word_at.Goals as goal
use Rattle.frame_text.proofs.word_at.Goals.{After-get-text, Start}

-- digits have values below sixteen, so there is room for four bits more
small-ones : (c : After-get-text) → ones_in c.get-text.result ≤ 0x0f0f_0f0f_0f0f_0f0f
small-ones c =
    let start = c.before.before in
    rw c.get-text.ensures (ones_small _ (length_part _ 8 _ start.requires.0) start.requires.1)

pub overflow_mul-ones : goal.overflow_mul-ones
overflow_mul-ones c = omega (arith, and_le_r (c.get-text.result / 64) 0x0101_0101_0101_0101)

pub overflow_add-ones : goal.overflow_add-ones
overflow_add-ones c = omega (arith, and_le_r c.get-text.result 0x0f0f_0f0f_0f0f_0f0f, and_le_r (c.get-text.result / 64) 0x0101_0101_0101_0101)

pub overflow_mul-twos : goal.overflow_mul-twos
overflow_mul-twos c = omega (arith, small-ones (goal.at.overflow_mul-twos c).After-get-text)

pub overflow_add-twos : goal.overflow_add-twos
overflow_add-twos c = omega (arith, small-ones (goal.at.overflow_add-twos c).After-get-text)

pub overflow_mul-fours : goal.overflow_mul-fours
overflow_mul-fours c = omega (arith, twos_small c.get-text.result)

pub overflow_add-fours : goal.overflow_add-fours
overflow_add-fours c = omega (arith, twos_small c.get-text.result)

pub overflow_mul-result : goal.overflow_mul-result
overflow_mul-result c = omega (arith, fours_small c.get-text.result)

pub overflow_add-result : goal.overflow_add-result
overflow_add-result c = omega (arith, fours_small c.get-text.result)

pub returns : goal.returns
returns c =
    let start = (goal.at.returns c).Start in
    rw c.get-text.ensures (word_in_lem _ (length_part _ 8 _ start.requires.0) start.requires.1)
