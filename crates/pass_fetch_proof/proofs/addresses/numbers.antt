pub mod Done
pub mod Copies
