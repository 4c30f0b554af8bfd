pub use Rattle.run_step.specs as run_step
pub mod Edges
pub mod Kinds
pub mod Reach
pub mod Words
