pub mod Expected
pub mod Listed
pub mod Laws
