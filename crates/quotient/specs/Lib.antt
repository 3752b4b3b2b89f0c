pub mod Divide
