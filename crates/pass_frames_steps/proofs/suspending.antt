pub mod Given
pub mod Suspended
