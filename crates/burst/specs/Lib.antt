-- The definitions that the contracts of the whole sample cite.
pub mod Types
pub mod Makers
pub mod Sample
pub mod Lead
pub mod Core
