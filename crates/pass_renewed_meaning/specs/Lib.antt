-- What libraries below say, for those above.
pub use Rattle.run_types.specs.pass_renewed_proof as pass_renewed_proof
pub use Rattle.run_types.specs.run_hooks as run_hooks
pub use Rattle.run_types.specs as run_types
pub mod Begins
pub mod Followed
pub mod Resumes
pub mod Rules
pub mod Runs
pub mod Offsets
