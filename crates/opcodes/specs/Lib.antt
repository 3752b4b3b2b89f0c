pub mod Kind
pub mod Mode
pub mod Grid
pub mod Map
pub mod Postbyte
pub mod Rules
