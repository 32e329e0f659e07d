-- Laws of a continuous stream's figures in three numbers.
pub mod Phases
pub mod Accepting
pub mod Steps
