-- What the theorems stand on.
pub mod Permuted
pub mod Placed
pub mod Elements
pub mod Stores
pub mod Swaps
pub mod Fields
pub mod Reading
