-- What is proved of the definitions.
pub mod Taken
pub mod Turns
pub mod Ways
pub mod Growing
pub mod Parts
pub mod Outlining
