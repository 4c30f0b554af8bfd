pub mod Parts
pub mod Owned
pub mod Framed
