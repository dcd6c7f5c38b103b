pub mod Refusals
pub mod Entries
pub mod Rows
