pub mod Following
pub mod Growing
pub mod Reporting
pub mod Steps
