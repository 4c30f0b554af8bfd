pub mod Fresh
pub mod Given
pub mod Killed
pub mod Making
pub mod Steps
