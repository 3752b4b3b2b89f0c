pub mod Decimal
pub mod Lookup
