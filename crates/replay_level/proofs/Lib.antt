-- Laws of the replay of a level stream in six numbers.
pub mod Samples
pub mod Steps
