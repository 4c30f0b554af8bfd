pub mod Framed
pub mod Steps
