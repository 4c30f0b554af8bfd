pub mod Kept
pub mod Unsplit
pub mod Uses
