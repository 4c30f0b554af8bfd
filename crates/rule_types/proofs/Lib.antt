pub mod Depths
pub mod Types
