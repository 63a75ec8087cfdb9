pub mod Figures
pub mod Clauses
pub mod Returns
pub mod Channels
