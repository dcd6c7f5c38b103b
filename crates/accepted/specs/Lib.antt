pub mod Accepted
pub mod Passes
pub mod Elements
pub mod Laws
