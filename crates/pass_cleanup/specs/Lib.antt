pub mod Cleanup
pub mod Cleanable
pub mod Free
pub mod Cleaned
