pub mod Plan
pub mod Rewrite
