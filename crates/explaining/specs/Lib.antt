pub mod Elements
pub mod Explaining
pub mod Beside
pub mod Examples
pub mod Laws
pub mod Theorems
