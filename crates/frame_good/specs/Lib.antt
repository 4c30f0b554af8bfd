pub mod Good
pub mod Frames
pub mod Worked
