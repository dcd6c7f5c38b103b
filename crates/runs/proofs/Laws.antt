-- What is proved of the definitions.
pub mod Alike
pub mod States
pub mod Writing
pub mod Ranges
pub mod RunRecords
