pub mod Paths
pub mod Shape
pub mod Whole
