pub mod Page
pub mod Put
pub mod Texts
