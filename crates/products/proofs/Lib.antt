pub mod Multiplication
