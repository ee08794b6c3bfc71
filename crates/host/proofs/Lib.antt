-- What holds of the exported functions' definitions, and the laws that their proofs cite.
pub mod SpecialPatterns
pub mod InPlace
