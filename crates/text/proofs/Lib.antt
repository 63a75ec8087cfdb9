pub mod Parts
pub mod Fields
pub mod Digits
pub mod Found
pub mod Decimal
pub mod Written
pub mod Back
