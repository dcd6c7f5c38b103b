pub mod Acts
pub mod Transfers
