pub mod Sums
pub mod Ending
pub mod Holding
pub mod Bounded
