-- The slots of a train from its edges, in either mode, and the sum of carried widths.
pub mod Slots
pub mod Sum
