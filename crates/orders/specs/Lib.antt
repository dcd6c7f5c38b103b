pub mod Orders
pub mod Exchanges
