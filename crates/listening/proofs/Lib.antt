-- Laws of what a call sees of its stream, of the part of the store that is lent, and of what each call gives.
pub mod Looking
pub mod Making
pub mod Trying
