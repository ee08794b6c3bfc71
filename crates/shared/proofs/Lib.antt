-- The laws that proofs cite, here and in the crates above.
pub mod Tests
pub mod Counts
pub mod Cases
