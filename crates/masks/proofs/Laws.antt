-- What is proved of the definitions.
pub mod Packed
pub mod Bits
pub mod Written
