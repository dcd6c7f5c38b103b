pub mod Rows
pub mod Small
