pub mod Cut
pub mod Levels
