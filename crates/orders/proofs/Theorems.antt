-- What is proved of stores: any order of one, and two next to each other exchanged.
pub mod AnyOrder
pub mod Exchanges
