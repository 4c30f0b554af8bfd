pub mod Allocas
pub mod Behind
pub mod Cells
pub mod Edge
pub mod Into
pub mod Stand
