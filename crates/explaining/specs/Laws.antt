-- What is proved of the definitions.
pub mod Asking
pub mod Sides
