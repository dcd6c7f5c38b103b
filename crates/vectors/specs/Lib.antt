pub mod Places
pub mod Refusals
pub mod Saturation
pub mod Components
pub mod Results
pub mod Within
pub mod Residues
