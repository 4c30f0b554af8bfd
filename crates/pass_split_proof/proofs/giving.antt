pub mod Constants
pub mod Frames
pub mod Freed
pub mod Given
pub mod Small
