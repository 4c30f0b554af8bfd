pub mod Called
pub mod CalledNames
pub mod Names
pub mod Turns
