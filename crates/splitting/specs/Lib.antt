pub mod Splitting
pub mod Lines
