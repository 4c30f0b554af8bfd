pub mod Turned
pub mod Whole
