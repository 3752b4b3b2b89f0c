pub mod Names
pub mod Reset
