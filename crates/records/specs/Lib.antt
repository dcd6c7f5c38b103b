pub mod Records
pub mod Room
pub mod Ranges
pub mod Laws
