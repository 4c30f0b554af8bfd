pub use Rattle.flow_blocks.proofs as flow_blocks
pub mod OperandLists
pub mod Standing
pub mod Numbering
pub mod Asking
pub mod Finding
