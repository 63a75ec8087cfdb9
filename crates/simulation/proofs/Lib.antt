pub mod Words
pub mod Paged
