pub mod Offers
pub mod Run
pub mod Slots
pub mod Answers
pub mod Places
pub mod Due
pub mod Arrays
pub mod Wait
