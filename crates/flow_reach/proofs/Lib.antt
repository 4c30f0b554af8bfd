pub use Rattle.flow_blocks.proofs as flow_blocks
pub mod Bits
pub mod Stepping
pub mod Each
pub mod Ways
pub mod Fronts
pub mod Telling
pub mod Avoiding
