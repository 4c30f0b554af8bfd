pub mod Returns
pub mod Whole
