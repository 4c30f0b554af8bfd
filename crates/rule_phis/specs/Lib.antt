pub mod Operands
pub mod Edges
pub mod Mentions
