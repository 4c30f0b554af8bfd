pub mod Numbered
pub mod Turns
