pub mod Opened
pub mod Spelling
