pub mod Numbers
pub mod Divisions
pub mod Theorems
