pub mod Edges
pub mod Entry
