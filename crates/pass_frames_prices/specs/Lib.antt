pub mod Bounds
pub mod Counts
pub mod FramePrices
pub mod Numbers
