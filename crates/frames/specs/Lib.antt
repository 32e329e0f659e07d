-- What the program's contracts cite beside the definitions of feeding.
pub mod Turns
