pub mod Laws
pub mod Ascending
pub mod Marks
