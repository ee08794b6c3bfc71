-- The laws of tagged lines, and their examples.
pub mod Laws
pub mod Examples
