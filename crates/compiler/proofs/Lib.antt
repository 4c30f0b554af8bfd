-- What libraries below prove, for those above.
pub use Rattle.pass_proofs.proofs.flow_facts as flow_facts
pub use Rattle.pass_proofs.proofs.flow_solver as flow_solver
pub use Rattle.frame_good.proofs as frame_good
pub use Rattle.frame_layout.proofs as frame_layout
pub use Rattle.pass_proofs.proofs.frame_slots as frame_slots
pub use Rattle.pass_proofs.proofs.ir_laws as ir_laws
pub use Rattle.pass_proofs.proofs.ir_paths as ir_paths
pub use Rattle.pass_proofs.proofs.ir_tables as ir_tables
pub use Rattle.pass_cleanup.proofs as pass_cleanup
pub use Rattle.pass_proofs.proofs.pass_kept_proof as pass_kept_proof
pub use Rattle.pass_proofs.proofs as pass_proofs
pub use Rattle.pass_proofs.proofs.rule_laws as rule_laws
pub use Rattle.pass_proofs.proofs.run_agreement as run_agreement
pub use Rattle.pass_proofs.proofs.run_laws as run_laws
pub use Rattle.pass_proofs.proofs.run_memory as run_memory
pub use Rattle.pass_proofs.proofs.run_states as run_states
pub use Rattle.text_canonical.proofs as text_canonical
pub use Rattle.pass_proofs.proofs.text_grammar as text_grammar
pub mod Told
pub mod NoCoroutine
pub mod Done
pub mod NoRule
pub mod Printed
