pub mod Printed
pub mod Taken
pub mod Running
pub mod Feeds
