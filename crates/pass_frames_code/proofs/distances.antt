pub mod Apart
pub mod Indices
pub mod Measured
pub mod Sums
pub mod Ways
