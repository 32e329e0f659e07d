-- Laws of reading an area in parts.
pub mod Heads
pub mod RecordForm
pub mod Parts
pub mod Turns
pub mod LotStreams
pub mod Tried
pub mod Reached
pub mod Ended
