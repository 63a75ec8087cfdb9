pub mod Fields
pub mod Limits
pub mod Written
pub mod Back
