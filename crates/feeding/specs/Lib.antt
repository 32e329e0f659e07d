-- What the contracts of this crate cite beside the definitions of frame_text: the line buffer, and what feeding leaves.
pub mod Held
pub mod Fed
