pub mod Typed
pub mod Longest
