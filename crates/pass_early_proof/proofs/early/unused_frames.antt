pub mod Early
pub mod Flags
