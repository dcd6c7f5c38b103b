pub mod Plans
pub mod Sound
pub mod Rows
