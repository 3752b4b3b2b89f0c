pub mod Image
pub mod Bench
pub mod Trace
pub mod Bound
pub mod Returns
