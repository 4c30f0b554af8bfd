pub mod Defined
pub mod Turned
