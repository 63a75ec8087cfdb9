pub mod Shares
pub mod Product
pub mod Sole
