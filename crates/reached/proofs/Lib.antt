-- That calls keep a lane within refusal 4's limits, stage by stage; what that tells of their records; and the law of the serials.
pub mod Fsk
pub mod FskSample
pub mod FrameEnd
pub mod Presence
pub mod Pairs
pub mod Burst
pub mod Kept
pub mod Reached
pub mod Records
pub mod Accepted
pub mod Serials
