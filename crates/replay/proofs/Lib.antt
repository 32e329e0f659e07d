-- Laws of what an area says.
pub mod Readings
