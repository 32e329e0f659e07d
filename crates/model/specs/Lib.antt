-- Paper 01, and cards 1 and 3 of paper 02, as definitions. In the order of reading: a station and its figures, its records, the calls on
-- it, its bytes, the calls on the store; then how far the figures reach, the figures worked out backwards, and what is claimed of it all.
pub mod Sizes
pub mod Stations
pub mod Figuring
pub mod Records
pub mod Calls
pub mod Area
pub mod Store
pub mod FigureBounds
pub mod Backward
pub mod Claims
pub mod Cases
