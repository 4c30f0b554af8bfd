pub mod Kept
pub mod Pointers
pub mod Standing
