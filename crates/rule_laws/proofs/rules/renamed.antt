pub mod Outside
pub mod Switches
pub mod Uses
