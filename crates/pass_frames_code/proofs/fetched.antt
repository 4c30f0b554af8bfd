pub mod Runs
pub mod Shapes
