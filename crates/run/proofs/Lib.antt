pub mod Refusals
pub mod OneStep
