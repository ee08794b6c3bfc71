-- The proof that quiet ends a burst.
pub mod Low
pub mod Calm
pub mod Calls
pub mod Theorem
pub mod Examples
