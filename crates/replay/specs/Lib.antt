-- What an area says.
pub mod Standing
