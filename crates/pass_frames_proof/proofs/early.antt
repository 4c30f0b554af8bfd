pub mod Copies
pub mod CopyCode
pub mod Moved
pub mod Placed
pub mod Sizes
pub mod Unlocated
