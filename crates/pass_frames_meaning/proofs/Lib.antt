-- What libraries below prove, for those above.
pub use Rattle.pass_frames_proof.proofs as pass_frames_proof
pub use Rattle.pass_renewed_meaning.proofs as pass_renewed_meaning
pub use Rattle.pass_frames_proof.proofs.pass_renewed_proof as pass_renewed_proof
pub use Rattle.pass_renewed_meaning.proofs.run_hooks as run_hooks
pub use Rattle.run_slots.proofs as run_slots
pub use Rattle.pass_renewed_meaning.proofs.run_types as run_types
