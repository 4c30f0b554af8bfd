pub use Rattle.ir_calls.specs as ir_calls
pub use Rattle.flow_points.specs.ir_paths as ir_paths
pub use Rattle.ir_parts.specs as ir_parts
pub mod First
pub mod Points
pub mod Sets
pub mod Outside
pub mod Windows
pub mod Tokens
