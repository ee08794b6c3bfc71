pub mod Laws
pub mod Orderly
pub mod Silent
pub mod Taken
pub mod Cores
