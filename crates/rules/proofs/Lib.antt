pub mod Sized
pub mod Sound
pub mod Beneath
pub mod Returns
