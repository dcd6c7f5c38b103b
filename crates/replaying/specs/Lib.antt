pub mod Verdicts
pub mod Replaying
pub mod Matching
