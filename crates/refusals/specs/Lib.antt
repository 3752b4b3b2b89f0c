pub mod Given
pub mod Refusals
