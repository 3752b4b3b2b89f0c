pub mod Branches
pub mod Control
