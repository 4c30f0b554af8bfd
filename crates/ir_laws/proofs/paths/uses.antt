pub mod Groups
pub mod Paths
pub mod Sources
