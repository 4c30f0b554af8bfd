pub mod Domain
pub mod Outgoing
pub mod Paths
pub mod Steps
