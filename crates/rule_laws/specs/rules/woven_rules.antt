pub mod Blocks
pub mod Fronts
pub mod Pairs
pub mod Parts
pub mod Weaving
