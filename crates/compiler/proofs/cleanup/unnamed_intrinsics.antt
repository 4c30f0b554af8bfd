pub mod Early
pub mod Parts
pub mod Sources
pub mod Woven
