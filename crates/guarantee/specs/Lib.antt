pub mod Guarantee
pub mod Consequences
pub mod Homecoming
pub mod AtOnce
pub mod Instances
pub mod Windows
pub mod Bursts
