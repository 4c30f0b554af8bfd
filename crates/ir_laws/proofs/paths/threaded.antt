pub mod Threads
pub mod Whole
