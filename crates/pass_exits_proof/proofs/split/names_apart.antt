pub mod Parts
pub mod Split
pub mod Steps
