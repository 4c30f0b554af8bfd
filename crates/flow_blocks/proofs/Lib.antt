pub use Rattle.run_step.proofs as run_step
pub mod Elements
pub mod Bounds
pub mod Telling
pub mod Reached
pub mod Making
