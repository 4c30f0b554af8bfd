pub mod Allocas
pub mod Allocators
pub mod Markers
