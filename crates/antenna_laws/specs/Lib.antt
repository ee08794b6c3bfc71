-- What document 02's R-4 says of sixteen antennas, over every list of calls: the terms in Calls and Demands, the statements in Theorems.
pub mod Calls
pub mod Demands
pub mod Theorems
pub mod Examples
