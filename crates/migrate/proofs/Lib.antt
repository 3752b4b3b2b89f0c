pub mod Bytes
pub mod Pages
pub mod OneLine
pub mod AllLines
pub mod Renewed
pub mod Whole
pub mod Again
pub mod InForce
