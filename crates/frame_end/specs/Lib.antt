-- The definitions that the contracts of a frame's end cite.
pub mod Types
pub mod End
pub mod Cut
pub mod Done
pub mod Core
