pub mod Lines
pub mod One
pub mod Rows
pub mod Values
