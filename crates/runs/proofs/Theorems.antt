-- What the crate is there to claim.
pub mod Longest
pub mod Unique
pub mod Acts
