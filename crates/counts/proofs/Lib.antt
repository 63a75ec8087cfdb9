pub mod Steps
pub mod Entries
pub mod Changed
pub mod Counted
pub mod Backward
pub mod Choosing
