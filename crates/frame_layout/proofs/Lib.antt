pub mod Grouped
pub mod Marked
pub mod Orders
pub mod Turns
