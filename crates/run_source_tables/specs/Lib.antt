pub use Rattle.run_step.specs as run_step
pub mod Given
pub mod Lookups
pub mod Suspends
pub mod Tables
