pub mod Fits
pub mod Modules
