pub mod Cells
pub mod Postbytes
