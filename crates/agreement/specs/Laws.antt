pub mod Passing
pub mod Moving
pub mod InRange
pub mod Stepping
pub mod Ranges
pub mod Steps
