pub mod Again
pub mod Sizes
