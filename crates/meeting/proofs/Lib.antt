pub mod Crossings
pub mod Deepest
