-- What is proved of the definitions.
pub mod Bounds
pub mod Lengths
pub mod Puts
pub mod Stretches
