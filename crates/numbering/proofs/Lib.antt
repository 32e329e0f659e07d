-- The law of the definitions of specs/: what is made of 32-bit numbers has 32-bit arguments.
pub mod Small
