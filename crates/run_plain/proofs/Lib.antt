pub mod Acting
pub mod Iterating
