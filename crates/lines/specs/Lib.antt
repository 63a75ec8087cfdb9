pub mod Lines
pub mod Answer
pub mod FirstRule
pub mod LineText
