-- The definitions that the contracts cite.
pub mod Constants
pub mod Rounding
pub mod Units
pub mod RoundingNearest
