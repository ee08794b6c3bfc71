-- The definitions that the contracts of the run machine cite, and what refusal 4 asks of a run.
pub mod Run
pub mod Limits
