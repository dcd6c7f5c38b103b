pub mod Steps
pub mod Checking
pub mod Clear
pub mod Turns
pub mod Laws
