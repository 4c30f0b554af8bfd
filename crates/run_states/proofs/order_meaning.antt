pub mod Actions
pub mod Moved
