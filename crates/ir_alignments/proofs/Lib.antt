pub mod SameNames
pub mod Levels
pub mod Steady
