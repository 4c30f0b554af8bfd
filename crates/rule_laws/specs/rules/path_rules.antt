pub mod Paths
pub mod Shape
