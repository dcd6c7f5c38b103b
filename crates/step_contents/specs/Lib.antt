pub mod Contents
pub mod Judged
pub mod Laws
