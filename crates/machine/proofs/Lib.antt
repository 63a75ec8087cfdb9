pub mod Returns
pub mod Cases
pub mod Home
pub mod Keeps
pub mod Windows
pub mod Laws
pub mod Steps
pub mod Within
