pub mod Addressed
pub mod Entry
