pub mod Masks
pub mod Entries
pub mod Placed
