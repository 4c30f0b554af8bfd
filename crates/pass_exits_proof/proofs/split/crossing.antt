pub mod Crossed
pub mod Ending
pub mod Steps
pub mod Ways
