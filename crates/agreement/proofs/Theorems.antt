pub mod Agreement
pub mod Translated
