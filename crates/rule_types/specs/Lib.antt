pub mod Depth
pub mod Heights
pub mod Limits
pub mod Signatures
pub mod Wants
