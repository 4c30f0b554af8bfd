pub mod Edges
pub mod Threads
