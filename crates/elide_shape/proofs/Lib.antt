pub mod Counting
pub mod EdgeBounds
pub mod Guarding
