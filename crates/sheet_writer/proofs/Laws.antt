-- What is proved for this crate's proofs.
pub mod Sums
pub mod Places
