-- The definitions that opening, begin, step and the part of a record cite.
pub mod Answers
pub mod Refusals
pub mod Idle
pub mod Begin
pub mod Advance
pub mod Close
pub mod Serial
pub mod Step
pub mod Part
