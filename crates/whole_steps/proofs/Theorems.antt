-- What a whole step is shown to do.
pub mod Kept
