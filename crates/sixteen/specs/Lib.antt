-- A stream of commands for sixteen antennas. What is printed of it stands in Sixteen; what the functions over a block of it say in Spoken.
pub mod Sixteen
pub mod Spoken
pub mod Orderly
pub mod Lent
