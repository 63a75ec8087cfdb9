pub mod Recursion
pub mod Fits
pub mod Widest
pub mod Terms
pub mod Answers
