pub use Rattle.ir_paths.proofs as ir_paths
pub mod LabelPositions
pub mod Tests
pub mod Marking
pub mod Growing
pub mod Neighbours
pub mod Filing
pub mod Settling
pub mod Paths
pub mod Inside
