pub mod Allowance
pub mod Next
pub mod Circle
pub mod Steps
pub mod Descent
