pub mod Dimensions
pub mod Laws
