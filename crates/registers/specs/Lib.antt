pub mod Types
pub mod Registers
pub mod Grids
pub mod Sized
pub mod Fits
pub mod Past
pub mod Laws
