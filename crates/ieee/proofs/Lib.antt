-- The laws that proofs cite, here and in the crates above.
pub mod Nan
pub mod Values
pub mod Pack
pub mod Fields
pub mod Short
pub mod HalfUp
pub mod Narrowing
pub mod Widening
pub mod Integral
pub mod IntegralNearest
pub mod NarrowNearest
pub mod Near
pub mod Distance
pub mod Signs
