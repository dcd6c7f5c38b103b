pub mod Accesses
pub mod Given
pub mod Writing
pub mod Laws
pub mod Theorems
