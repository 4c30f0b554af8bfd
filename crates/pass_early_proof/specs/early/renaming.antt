pub mod Passes
pub mod Regular
