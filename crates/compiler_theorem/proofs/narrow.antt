pub mod Written
pub mod Passes
pub mod Early
pub mod Indices
pub mod Modules
