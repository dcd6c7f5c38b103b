-- What is claimed of the public routines.
pub mod Refusals
pub mod Kept
pub mod Accepted
pub mod Divisions
pub mod Sides
