pub mod Allocas
pub mod Cells
pub mod Front
pub mod Ways
