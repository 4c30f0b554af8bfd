pub mod Early
pub mod Marks
