-- What libraries below prove, for those above.
pub use Rattle.pass_proofs.proofs.flow_solver as flow_solver
pub use Rattle.pass_proofs.proofs.ir_laws as ir_laws
pub use Rattle.pass_proofs.proofs.ir_paths as ir_paths
pub use Rattle.pass_proofs.proofs.pass_kept_proof as pass_kept_proof
pub use Rattle.pass_proofs.proofs as pass_proofs
pub use Rattle.pass_renewed_proof.proofs as pass_renewed_proof
pub use Rattle.pass_proofs.proofs.rule_laws as rule_laws
pub use Rattle.run_access_worked.proofs as run_access_worked
pub use Rattle.pass_proofs.proofs.run_agreement as run_agreement
pub use Rattle.pass_proofs.proofs.run_laws as run_laws
pub use Rattle.pass_proofs.proofs.run_states as run_states
