pub mod CelledBlocks
pub mod Sums
