-- The two standards' numbers as paper 01 condenses them, in the paper's order.
pub mod Limits
pub mod Verdicts
pub mod Credit
pub mod Severities
pub mod Tables
pub mod Stops
pub mod Levels
pub mod LevelBounds
pub mod Continuous
