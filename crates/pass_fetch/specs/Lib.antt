pub mod Fetching
pub mod Instrs
pub mod Blocks
