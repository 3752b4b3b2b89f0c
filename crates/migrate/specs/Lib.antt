pub mod Format
pub mod Migrated
pub mod Reading
pub mod Page
