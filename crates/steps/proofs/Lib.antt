pub mod Idle
pub mod Loop
