pub mod Sizes
pub mod Codes
pub mod Editions
pub mod Laws
