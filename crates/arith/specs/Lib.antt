-- The definitions that the contracts of the arithmetic cite, in reading order; then what the results have to be, however they are found.
pub mod Leaves
pub mod Angle
pub mod Carry
