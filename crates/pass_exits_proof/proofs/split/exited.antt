pub mod Exited
pub mod Whence
