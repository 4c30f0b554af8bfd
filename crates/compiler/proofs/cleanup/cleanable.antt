pub mod Defined
pub mod Whole
