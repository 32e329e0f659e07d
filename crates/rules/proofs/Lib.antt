-- Laws of a lot's counts, of refusals up to the last, and of figures that are zero.
pub mod Counts
pub mod UpToLast
pub mod Zeros
