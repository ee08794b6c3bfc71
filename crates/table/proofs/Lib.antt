pub mod Lifted
pub mod Examples
pub mod Laws
