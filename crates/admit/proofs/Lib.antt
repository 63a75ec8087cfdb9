pub mod Sets
pub mod Offers
