pub mod Celled
pub mod Entry
pub mod Names
