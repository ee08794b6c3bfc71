-- The definitions that the contracts of the presence machine cite.
pub mod Types
pub mod Move
pub mod Presence
pub mod Core
