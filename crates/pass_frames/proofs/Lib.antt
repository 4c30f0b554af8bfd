pub mod Reaching
pub mod Told
