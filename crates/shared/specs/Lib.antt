-- The definitions that the contracts cite.
pub mod Counts
pub mod Answers
pub mod Params
pub mod Core
pub mod Settings
