-- What is proved of the definitions.
pub mod Events
pub mod Ascending
pub mod Few
