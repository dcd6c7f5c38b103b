pub mod Indices
pub mod Plans
pub mod Laws
