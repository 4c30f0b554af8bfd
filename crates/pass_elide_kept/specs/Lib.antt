pub mod Modules
pub mod Runs
pub mod Steps
pub mod Kept
pub mod Keepers
