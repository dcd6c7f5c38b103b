pub mod Records
pub mod Turns
pub mod Answers
pub mod Fits
