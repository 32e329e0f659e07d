-- Laws about the definitions of specs/, which the proofs here cite.
pub mod Sizes
pub mod Levels
pub mod Sums
pub mod Elements
pub mod Spread
pub mod Inside
pub mod Products
pub mod Judged
pub mod Cases
