pub mod Starts
pub mod Rests
pub mod Said
