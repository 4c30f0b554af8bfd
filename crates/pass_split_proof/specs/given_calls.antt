pub mod Calling
pub mod Ramps
