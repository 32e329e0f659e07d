-- An answer as a line of text: paper 01, "Hexadecimal frames". Assumes nothing.
use Rattle.std.specs.Prelude.{ℕ, ◌+◌, ◌*◌, List, [], ◌∷◌, ◌++◌}
use Rattle.model.specs.declared.Answer.{Answer}
use Rattle.frame_text.specs.Digits.{digits_of}
use Rattle.frame_text.specs.Frames.{byte_digits, word_digits}

-- "a line ends at a line feed"
abbrev pub line_feed : ℕ
line_feed = 10

-- 27, the longest text of a line: an answer's 26 digits and a line feed
abbrev pub text_length : ℕ
text_length = byte_digits + word_digits * 3 + 1

-- the text of a line that is no frame: two digits and a line feed
abbrev pub bad_length : ℕ
bad_length = 3

-- "It prints 26 digits a line: refusal, three numbers."
unfoldable pub answer_text : Answer → List ℕ
answer_text r =
    digits_of byte_digits r.refusal
    ++ digits_of word_digits r.first
    ++ digits_of word_digits r.second
    ++ digits_of word_digits r.third
    ++ (line_feed ∷ [])

-- "another line gives `ff`"
unfoldable pub bad_text : List ℕ
bad_text = 102 ∷ 102 ∷ line_feed ∷ []
