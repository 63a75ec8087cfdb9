pub mod Emptied
pub mod Files
