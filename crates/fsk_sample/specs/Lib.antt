-- The definitions that the contracts of the frequency slicer cite.
pub mod Tone
pub mod Seek
pub mod Sample
