pub mod Indexed
pub mod Operand
