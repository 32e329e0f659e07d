-- `Laws` has the laws of parts and of neighbouring writes, `Together` those of numbers put together, `Windows` those of lists of zeros, for
-- the proofs of this crate and of the crates that link it.
pub mod Laws
pub mod Together
pub mod Windows
