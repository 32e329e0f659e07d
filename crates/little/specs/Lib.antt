-- `Little` has what the contracts of `src/` cite.
pub mod Little
