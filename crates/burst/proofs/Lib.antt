pub mod Pieces
pub mod Cut
pub mod Joins
pub mod Joining
pub mod Offered
pub mod Boards
