pub mod Words
pub mod Paged
pub mod Beyond
