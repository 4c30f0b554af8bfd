pub mod Premises
pub mod Whole
