pub mod Kept
pub mod Signatures
