-- Calls keep every lane within refusal 4's limits, and count the accepted ones of their list.
pub mod Limits
pub mod Reached
pub mod Serials
