pub mod Words
pub mod Bounds
pub mod Walk
pub mod Turns
pub mod Clock
