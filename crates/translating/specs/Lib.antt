pub mod Tapes
pub mod Turns
pub mod Masks
pub mod Translating
pub mod GivenTape
