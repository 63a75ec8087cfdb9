pub mod Texts
pub mod Lines
pub mod Order
pub mod Limits
pub mod Length
pub mod Answers
pub mod Longest
pub mod Figures
