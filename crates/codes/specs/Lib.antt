pub mod Conditions
pub mod Loops
