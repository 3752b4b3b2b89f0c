pub mod Image
pub mod Bench
pub mod Bound
pub mod Returns
