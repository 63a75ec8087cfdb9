pub mod Pairs
pub mod Told
