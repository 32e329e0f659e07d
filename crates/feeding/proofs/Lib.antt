-- Laws about lines and text buffers.
pub mod Laws
