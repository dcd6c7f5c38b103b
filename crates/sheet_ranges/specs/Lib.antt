pub mod Steps
pub mod Sheets
pub mod Laws
