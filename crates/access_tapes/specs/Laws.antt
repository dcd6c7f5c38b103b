-- What is proved of the definitions.
pub mod Few
pub mod Writing
