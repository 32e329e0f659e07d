-- Paper 01's table of proved cases, and card 3's samples under a ceiling.
pub mod Cases
