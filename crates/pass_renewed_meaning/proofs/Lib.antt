-- What libraries below prove, for those above.
pub use Rattle.run_types.proofs.pass_renewed_proof as pass_renewed_proof
pub use Rattle.run_types.proofs.run_hooks as run_hooks
pub use Rattle.run_types.proofs as run_types
pub mod Alike
pub mod Assembly
pub mod Owned
pub mod BegunSlots
pub mod BegunStates
pub mod Begins
pub mod NewSlots
pub mod EntrySlots
pub mod Renaming
pub mod Resumed
pub mod Between
pub mod Resuming
pub mod Tables
pub mod Places
pub mod Points
pub mod OneStep
pub mod Addresses
pub mod RunStates
pub mod Outdone
pub mod Here
pub mod OrdinaryCases
pub mod CallCases
pub mod Terminators
pub mod Handles
pub mod Coroutines
pub mod Dispatch
pub mod MarkerCases
pub mod SaveCases
pub mod ResumeCases
pub mod AllocaCases
pub mod CloseCases
pub mod OffsetBytes
pub mod OffsetValues
pub mod OffsetSteps
pub mod OffsetRuns
