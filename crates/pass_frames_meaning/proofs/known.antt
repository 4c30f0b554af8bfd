pub mod Marked
pub mod Markers
pub mod Operands
