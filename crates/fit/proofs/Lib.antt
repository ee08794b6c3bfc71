-- The laws that the proofs of several functions cite.
pub mod Passes
pub mod Cases
pub mod Backward
