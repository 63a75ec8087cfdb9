pub mod Offers
pub mod Traces
pub mod Requests
