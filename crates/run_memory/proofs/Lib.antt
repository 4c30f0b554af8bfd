pub mod Blocks
pub mod Digits
pub mod Found
pub mod Kept
pub mod Reading
pub mod Split
