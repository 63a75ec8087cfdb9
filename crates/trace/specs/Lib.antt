pub mod TraceFile
pub mod OfferText
