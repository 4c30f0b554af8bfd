pub use Rattle.flow_blocks.specs as flow_blocks
pub use Rattle.flow_blocks.specs.run_step as run_step
pub mod Uses
pub mod Undefined
pub mod Scan
pub mod Questions
