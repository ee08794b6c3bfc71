-- Document 01's domain, and the limits of a lane value that its refusals ask for.
pub mod Domain
pub mod Serial
pub mod State
pub mod Order
