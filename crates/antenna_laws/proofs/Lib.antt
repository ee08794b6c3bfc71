-- The proofs of R-4.
pub mod Answers
pub mod One
pub mod Four
pub mod Alone
pub mod Twelve
pub mod Frees
pub mod Demands
pub mod Examples
