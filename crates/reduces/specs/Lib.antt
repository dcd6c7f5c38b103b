pub mod Shapes
pub mod Reducing
pub mod Parts
