-- What the contracts of this crate cite: the replay of a level stream in six numbers.
pub mod Carrying
