pub mod Products
pub mod Widths
pub mod Wraps
