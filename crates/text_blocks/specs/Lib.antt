pub mod Instrs
pub mod Calls
pub mod Terminators
pub mod Blocks
