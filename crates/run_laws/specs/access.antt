pub mod Accessed
pub mod Changed
pub mod Lines
pub mod Reading
pub mod Rights
pub mod Touched
