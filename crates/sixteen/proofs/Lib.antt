-- What the proofs of this crate cite.
pub mod Rows
pub mod Taken
pub mod Turns
