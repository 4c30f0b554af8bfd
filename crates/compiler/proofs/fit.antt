pub mod Held
pub mod Fields
pub mod Bytes
pub mod Accepted
