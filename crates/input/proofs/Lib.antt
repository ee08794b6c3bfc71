pub mod Laws
pub mod Passes
