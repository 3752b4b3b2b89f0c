pub mod End
pub mod Steps
pub mod Idle
