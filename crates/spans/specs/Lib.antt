pub mod Spans
pub mod Needed
pub mod Examples
pub mod Laws
pub mod Theorems
