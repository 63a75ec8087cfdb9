pub mod Emptied
pub mod Tests
