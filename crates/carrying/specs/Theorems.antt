pub mod Counts
pub mod Untouched
pub mod Stores
pub mod Fits
