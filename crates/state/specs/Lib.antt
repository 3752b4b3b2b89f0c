pub mod Ccr
pub mod State
