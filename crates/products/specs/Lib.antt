pub mod Shapes
pub mod Multiplying
pub mod Residues
pub mod Laws
