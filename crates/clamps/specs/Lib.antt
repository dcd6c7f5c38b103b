pub mod Clamps
pub mod Sides
pub mod Named
pub mod Coordinates
