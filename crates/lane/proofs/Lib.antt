-- What the proofs of this crate cite.
pub mod Fills
pub mod PartLaws
pub mod Zeros
pub mod Refusals
