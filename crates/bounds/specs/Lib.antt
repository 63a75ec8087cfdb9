pub mod Limited
pub mod Bounds
pub mod Recursion
