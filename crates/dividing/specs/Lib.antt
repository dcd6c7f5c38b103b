pub mod Divisions
pub mod Dividing
pub mod Laws
pub mod Theorems
