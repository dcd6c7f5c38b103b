-- What is proved of the definitions.
pub mod Splits
pub mod Coordinates
