pub mod Copied
pub mod Copies
pub mod Returned
