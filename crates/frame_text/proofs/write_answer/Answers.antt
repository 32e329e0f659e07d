-- Four writes and a store, each behind the one before, are one write of the answer's text: `one_line`.
use Rattle.frame_text.proofs.Laws.{length_digits, write_on, store_on}
use Rattle.frame_text.specs.Digits.{digits_of}
use Rattle.frame_text.specs.Answers.{line_feed, text_length, answer_text}
use Rattle.little.specs.Little.{written}
use Rattle.model.specs.declared.Answer.{Answer}
use mathlib.Core.Path.{◌≡◌}
use mathlib.Core.List.{List, ◌++◌}
use Prim.Native.Nat.{ℕ, ◌+◌, ◌≤◌}
use lib.ListN.{length, set, length-append}
use native.Mathlib.Omega.{arith}
use Rattle.frame_text.proofs.write_answer.Goals as goal

-- four numbers and a line feed, one behind the other
one_line : (at : ℕ) (r : Answer) (s : List ℕ) → at + text_length ≤ length s
    → set
    (written (at + 18) (digits_of 8 r.third)
    (written (at + 10) (digits_of 8 r.second)
    (written (at + 2) (digits_of 8 r.first) (written at (digits_of 2 r.refusal) s))))
    (at + 26)
    line_feed
    ≡ written at (answer_text r) s
unfolding answer_text
one_line at r s fits =
    let none : List ℕ = digits_of 2 r.refusal in
    let one : List ℕ = none ++ digits_of 8 r.first in
    let two : List ℕ = one ++ digits_of 8 r.second in
    let three : List ℕ = two ++ digits_of 8 r.third in
    let none-length : length none ≡ 2 = length_digits 2 r.refusal in
    let one-length : length one ≡ 10 = simp (length-append, length_digits) in
    let two-length : length two ≡ 18 = simp (length-append, length_digits) in
    let three-length : length three ≡ 26 = simp (length-append, length_digits) in
    rw (
      write_on at 2 none (digits_of 8 r.first) s none-length (omega (arith, length_digits 8 r.first)),
      write_on at 10 one (digits_of 8 r.second) s one-length (omega (arith, length_digits 8 r.second)),
      write_on at 18 two (digits_of 8 r.third) s two-length (omega (arith, length_digits 8 r.third)),
    )
    (store_on at 26 three s line_feed three-length (omega arith))

pub returns : goal.returns
returns c =
    rw (c.put_digits-4.ensures, c.put_digits-3.ensures, c.put_digits-2.ensures, c.put_digits.ensures)
    (one_line c.args.at c.args.answer c.args.out.now (omega (arith, c.requires)))
