pub mod Kinds
pub mod Fits
pub mod Geps
pub mod Instrs
pub mod Switches
pub mod Values
pub mod Initials
