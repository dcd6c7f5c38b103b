pub mod Rules
pub mod Plans
pub mod Valid
pub mod Rows
pub mod Sound
pub mod Laws
