-- Laws about the definitions of specs/, and the proofs of its claims, in the order in which they build on one another.
pub mod Booleans
pub mod Allowed
pub mod AreaReading
pub mod Keeping
pub mod OnArea
pub mod OnStore
pub mod Soundness
pub mod FigureBounds
pub mod Backward
pub mod Stored
pub mod Recordings
pub mod NewestRecords
pub mod EveryList
pub mod CallCases
