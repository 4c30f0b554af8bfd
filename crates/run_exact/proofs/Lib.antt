pub mod Values
pub mod Actions
pub mod Parts
pub mod Steps
pub mod Runs
