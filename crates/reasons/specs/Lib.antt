pub mod Words
pub mod Reasons
pub mod Faults
