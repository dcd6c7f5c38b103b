-- What is proved of the definitions.
pub mod Within
pub mod Fits
