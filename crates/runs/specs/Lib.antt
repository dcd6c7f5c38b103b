pub mod Runs
pub mod Even
pub mod Acts
pub mod RunRecords
pub mod Ranges
