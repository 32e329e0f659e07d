-- Reading an area record after record.
pub mod Replaying
pub mod LotStreams
