pub mod Records
pub mod Running
pub mod Outside
