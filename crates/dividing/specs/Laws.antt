-- What is proved of the definitions.
pub mod Indices
pub mod Totals
pub mod Few
