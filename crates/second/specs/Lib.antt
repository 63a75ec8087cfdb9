pub mod Rows
pub mod Machine
