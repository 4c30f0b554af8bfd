pub mod Ways
pub mod Sums
