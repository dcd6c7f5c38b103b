pub mod Names
pub mod Steps
pub mod Accesses
pub mod Turns
pub mod Met
pub mod Readable
