-- The worked examples of document 01, its refusal 4 and other rules at their limits, and the serials of document 02's R-6.
pub mod Text
pub mod Bursts
pub mod Worked
pub mod Limits
pub mod Serials
pub mod Edges
