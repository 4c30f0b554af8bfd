pub mod Composition
pub mod Names
