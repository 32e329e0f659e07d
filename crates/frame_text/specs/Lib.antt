-- Paper 01, "Hexadecimal frames", in the order of reading: digits, a frame, an answer's line, the whole program, and the same
-- fed in pieces; then its whole case, and what is claimed of these definitions.
pub mod Digits
pub mod Frames
pub mod Answers
pub mod Program
pub mod Feeding
pub mod Case
pub mod Claims
