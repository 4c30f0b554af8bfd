pub mod Ramps
pub mod Ready
