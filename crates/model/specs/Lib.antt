pub mod Tree
pub mod Builders
pub mod Beneath
pub mod Answer
pub mod Trees
