pub mod Words
pub mod Inherent
pub mod Products
