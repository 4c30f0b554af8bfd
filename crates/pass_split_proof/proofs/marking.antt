pub mod Followed
pub mod Started
