-- What is proved of the definitions.
pub mod Choice
pub mod All
pub mod Ranges
pub mod Lists
pub mod Lines
pub mod Joins
pub mod Places
pub mod Bytes
pub mod Orders
pub mod First
pub mod Remainders
