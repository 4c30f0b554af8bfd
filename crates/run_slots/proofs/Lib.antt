pub use Rattle.run_hooks.proofs as run_hooks
pub mod Blocks
pub mod Times
pub mod Keeping
pub mod Steps
pub mod Meanings
pub mod Made
pub mod MadeMeanings
