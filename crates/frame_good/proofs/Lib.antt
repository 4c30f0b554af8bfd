pub mod Fields
pub mod Laid
pub mod Frames
pub mod Worked
