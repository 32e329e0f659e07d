-- Laws of a credit stream's replay.
pub mod Steps
