pub mod Copied
pub mod Entry
pub mod Names
