-- The laws that the proofs of several functions cite.
pub mod Magnitude
pub mod Cast
pub mod Signed
pub mod Carry
pub mod OwnEdge
