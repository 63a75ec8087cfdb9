pub mod Puts
pub mod Texts
pub mod Lines
pub mod Pages
