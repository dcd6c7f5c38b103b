-- What is proved of the definitions.
pub mod Shapes
pub mod Fits
