-- What libraries below prove, for those above.
pub use Rattle.run_hooks.proofs.flow_facts as flow_facts
pub use Rattle.run_hooks.proofs.frame_slots as frame_slots
pub use Rattle.run_hooks.proofs.ir_paths as ir_paths
pub use Rattle.run_hooks.proofs.pass_kept_proof as pass_kept_proof
pub use Rattle.run_hooks.proofs.pass_renewed_proof as pass_renewed_proof
pub use Rattle.run_hooks.proofs.run_agreement as run_agreement
pub use Rattle.run_hooks.proofs as run_hooks
pub use Rattle.run_hooks.proofs.run_laws as run_laws
pub mod Bytes
pub mod Fit
pub mod Rules
pub mod Results
pub mod Ordinary
pub mod Parts
pub mod Acts
pub mod HandedOn
pub mod Beginning
pub mod Meanings
pub mod Runs
