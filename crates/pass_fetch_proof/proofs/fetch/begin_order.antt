pub mod Operands
pub mod Rows
