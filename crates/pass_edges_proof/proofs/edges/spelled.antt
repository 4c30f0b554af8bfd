pub mod Edges
pub mod Entry
pub mod Names
