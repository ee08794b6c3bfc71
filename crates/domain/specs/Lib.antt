-- Document 01's limits by name.
pub mod Limits
