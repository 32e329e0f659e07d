-- A continuous stream as its replay carries it.
pub mod Places
