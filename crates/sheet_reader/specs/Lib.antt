pub mod Reading
pub mod Heads
pub mod Laws
