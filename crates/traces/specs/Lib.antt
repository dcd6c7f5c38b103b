pub mod Events
pub mod Reading
pub mod Writing
pub mod Numbered
pub mod Ascending
