pub mod Folds
pub mod Entries
pub mod Listed
pub mod Ceiling
