-- What libraries below say, for those above.
pub use Rattle.pass_renewed_proof.specs.flow_facts as flow_facts
pub use Rattle.pass_renewed_proof.specs.flow_solver as flow_solver
pub use Rattle.pass_renewed_proof.specs.frame_classes as frame_classes
pub use Rattle.pass_renewed_proof.specs.ir_base as ir_base
pub use Rattle.pass_renewed_proof.specs.ir_model as ir_model
pub use Rattle.pass_renewed_proof.specs.ir_paths as ir_paths
pub use Rattle.pass_renewed_proof.specs.pass_kept_proof as pass_kept_proof
pub use Rattle.pass_renewed_proof.specs as pass_renewed_proof
pub use Rattle.pass_renewed_proof.specs.rule_windows as rule_windows
pub use Rattle.pass_renewed_proof.specs.run_agreement as run_agreement
pub use Rattle.pass_renewed_proof.specs.run_framed as run_framed
pub use Rattle.pass_renewed_proof.specs.run_ints as run_ints
pub use Rattle.pass_renewed_proof.specs.run_laws as run_laws
pub use Rattle.pass_renewed_proof.specs.run_memory as run_memory
pub use Rattle.pass_renewed_proof.specs.run_source as run_source
pub use Rattle.pass_renewed_proof.specs.run_source_tables as run_source_tables
pub use Rattle.pass_renewed_proof.specs.run_step as run_step
pub mod Hooks
pub mod Meanings
pub mod Reached
pub mod Left
pub mod Away
pub mod alive
