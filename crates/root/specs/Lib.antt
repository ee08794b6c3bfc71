-- The definitions that the contracts cite.
pub mod Root
pub mod RootSteps
pub mod RootNearest
