pub mod Transposing
pub mod Refusals
pub mod Whole
pub mod Within
