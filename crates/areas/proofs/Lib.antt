-- What the calls make of an area: laws for each answer of the code.
pub mod Rewriting
pub mod OnReading
pub mod Outcomes
pub mod Entering
