-- What is proved of the definitions.
pub mod Widths
pub mod Modulo
pub mod Signs
pub mod Raised
pub mod Sums
