pub mod Far
pub mod Front
pub mod Steps
pub mod Stores
pub mod Through
pub mod Twice
