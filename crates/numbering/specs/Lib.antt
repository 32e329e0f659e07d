-- The calls of papers 01 and 02 by number.
pub mod Numbers
pub mod Kinds
