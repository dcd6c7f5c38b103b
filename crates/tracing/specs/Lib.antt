pub mod Tracing
pub mod Theorems
