pub mod Measure
pub mod Suspended
