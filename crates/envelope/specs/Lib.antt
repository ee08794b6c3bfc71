-- The stages of `sample` that the OOK half is made of.
pub mod Types
pub mod See
pub mod Act
pub mod Tail
pub mod Core
