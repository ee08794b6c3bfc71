-- The definitions that the contracts of the frequency runs cite.
pub mod Types
pub mod Makers
pub mod Commit
pub mod RunStep
pub mod Resolve
pub mod Core
