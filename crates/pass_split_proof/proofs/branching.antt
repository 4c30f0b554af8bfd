pub mod Stopped
pub mod Targets
pub mod Terminators
