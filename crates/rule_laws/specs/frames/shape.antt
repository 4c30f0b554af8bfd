pub mod Passes
pub mod Quiet
