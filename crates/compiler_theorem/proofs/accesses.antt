pub mod Begins
pub mod Ahead
pub mod Places
pub mod Stored
pub mod Known
