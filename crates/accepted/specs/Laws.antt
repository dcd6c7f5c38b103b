-- What is proved of the definitions.
pub mod Rests
pub mod Clear
pub mod Elements
