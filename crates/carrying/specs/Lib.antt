pub mod Steps
pub mod Carrying
pub mod Machines
pub mod Bytes
pub mod Laws
pub mod Theorems
