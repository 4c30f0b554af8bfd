pub mod Freed
pub mod Memories
