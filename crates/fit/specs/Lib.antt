-- The definitions that the contracts of the fit cite.
pub mod Slots
pub mod Fit
