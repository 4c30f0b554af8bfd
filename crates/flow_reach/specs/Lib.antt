pub use Rattle.flow_blocks.specs as flow_blocks
pub mod Reached
pub mod Rows
