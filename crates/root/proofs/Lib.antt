-- The laws that proofs cite, here and in the crates above.
pub mod RootAssembled
pub mod RootBrought
pub mod RootDigits
pub mod RootExact
pub mod RootFromTable
pub mod RootNearest
pub mod RootNewton
pub mod RootRounding
pub mod RootSides
pub mod RootSpecial
pub mod RootSteps
pub mod RootValue
pub mod RootWhole
