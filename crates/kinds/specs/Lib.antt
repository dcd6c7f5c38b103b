pub mod Widths
pub mod Values
pub mod Interpretations
pub mod Sums
pub mod Laws
