pub mod Activations
pub mod Begun
pub mod Going
pub mod Instances
pub mod Memories
pub mod Related
pub mod Saved
pub mod Values
