pub mod Inquiry
pub mod Lines
