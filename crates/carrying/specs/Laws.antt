pub mod Types
pub mod Counts
pub mod Done
pub mod Loops
pub mod Fits
