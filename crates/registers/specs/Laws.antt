-- What is proved of the definitions.
pub mod Types
pub mod Registers
pub mod Sized
pub mod Grids
pub mod Fits
pub mod Past
