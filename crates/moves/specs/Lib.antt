pub mod Moves
pub mod Addresses
pub mod Bits
