pub mod Edges
pub mod EdgeBlocks
pub mod Positions
