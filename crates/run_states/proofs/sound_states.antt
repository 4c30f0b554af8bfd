pub mod Acts
pub mod Fits
pub mod Kept
pub mod Steps
