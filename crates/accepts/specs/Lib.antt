pub mod TreeText
pub mod TreeRefused
pub mod TraceText
pub mod TraceRefused
pub mod RoundTrip
pub mod Names
