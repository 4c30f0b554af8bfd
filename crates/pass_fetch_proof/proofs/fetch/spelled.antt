pub mod Entry
pub mod Fetched
pub mod Names
