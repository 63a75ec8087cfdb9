pub mod Burst
pub mod Splitting
pub mod Joiner
pub mod Joining
pub mod Offers
pub mod Answers
pub mod Boards
