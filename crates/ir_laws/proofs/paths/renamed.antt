pub mod Fits
pub mod Kept
pub mod Outside
pub mod Switches
pub mod Uses
