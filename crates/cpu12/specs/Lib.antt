pub mod Doors
pub mod Again
