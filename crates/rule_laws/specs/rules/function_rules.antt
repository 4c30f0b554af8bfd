pub mod Kept
pub mod Tabled
