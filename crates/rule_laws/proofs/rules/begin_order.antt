pub mod CelledBlocks
pub mod Known
