pub use Rattle.ir_paths.specs as ir_paths
pub mod Rows
pub mod Edges
pub mod Search
pub mod Reached
