-- The theorem over the table of proved cases, which the contracts of the code cite.
pub mod Theorem
