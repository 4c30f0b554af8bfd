pub mod Depths
pub mod Early
pub mod Tabled
