-- The definitions that the OOK crate's contracts cite.
pub mod Types
pub mod Core
pub mod Run
pub mod Refine
pub mod Train
pub mod Limits
