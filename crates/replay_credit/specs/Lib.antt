-- What the contracts of this crate cite: the replay of a credit stream in three numbers.
pub mod Carrying
