-- A program that answers a stream of bytes command by command. What it prints stands in Machine; what reading block after block says in Blocks,
-- and feed after feed of a buffer in Feeds.
pub mod Machine
pub mod Blocks
pub mod Feeds
