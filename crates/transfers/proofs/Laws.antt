pub mod Elements
pub mod Effects
pub mod Fits
