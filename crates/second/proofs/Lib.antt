pub mod Looked
pub mod Returns
