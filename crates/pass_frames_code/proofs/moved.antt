pub mod Instances
pub mod Rest
