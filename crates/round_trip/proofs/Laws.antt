-- What is proved on the way to the theorems.
pub mod Codes
pub mod Layouts
pub mod Views
pub mod Steps
pub mod Sheets
pub mod Growing
pub mod Returning
pub mod Written
pub mod Prefixes
