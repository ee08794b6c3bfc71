-- The laws that the proofs cite.
mod Places
mod WordLoops
pub mod Laws
