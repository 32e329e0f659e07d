-- Laws about the definitions of specs/, which the proofs here and in the crates above cite.
pub mod Booleans
pub mod RoundedUp
pub mod Rows
pub mod Below
pub mod LevelBounds
pub mod Windows
