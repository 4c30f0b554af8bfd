pub mod Ramps
pub mod Row
