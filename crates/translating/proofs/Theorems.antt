pub mod GivenTape
pub mod Translated
pub mod Masks
