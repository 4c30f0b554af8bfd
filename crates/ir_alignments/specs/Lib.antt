pub mod Alignment
pub mod Level
