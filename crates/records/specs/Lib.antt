-- `Records` has what the contracts of `src/` cite.
pub mod Records
