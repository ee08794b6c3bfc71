-- R-9, first half: quiet ends a burst. What it says is in Quiet; Examples has what the lane does in small lists.
pub mod Quiet
pub mod Examples
