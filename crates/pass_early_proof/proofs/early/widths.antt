pub mod Headings
pub mod Widths
