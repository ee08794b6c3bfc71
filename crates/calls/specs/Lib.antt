-- What a command does stands in Turn, and what is printed of a stream of them in Stream; what the functions over a block say in Steps.
pub mod Turn
pub mod Stream
pub mod Steps
pub mod Orderly
