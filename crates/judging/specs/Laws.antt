pub mod Bytes
pub mod Elements
pub mod Records
pub mod Named
pub mod Turns
