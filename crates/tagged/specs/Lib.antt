pub mod Tagged
pub mod Examples
