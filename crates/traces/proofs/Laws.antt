-- What is proved of the definitions.
pub mod Events
pub mod Turns
pub mod Ways
pub mod Numbered
pub mod Refusals
pub mod Writing
