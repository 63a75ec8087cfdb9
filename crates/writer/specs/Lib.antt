pub mod Lines
pub mod Writer
pub mod Adds
pub mod Answers
pub mod Longest
pub mod Figures
