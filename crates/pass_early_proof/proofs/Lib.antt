-- What libraries below prove, for those above.
pub use Rattle.rule_laws.proofs.flow_facts as flow_facts
pub use Rattle.rule_laws.proofs.flow_solver as flow_solver
pub use Rattle.rule_laws.proofs.frame_classes as frame_classes
pub use Rattle.rule_laws.proofs.frame_slots as frame_slots
pub use Rattle.rule_laws.proofs.ir_laws as ir_laws
pub use Rattle.rule_laws.proofs.ir_parts as ir_parts
pub use Rattle.rule_laws.proofs.ir_paths as ir_paths
pub use Rattle.rule_laws.proofs.ir_tables as ir_tables
pub use Rattle.rule_laws.proofs as rule_laws
pub use Rattle.rule_laws.proofs.run_agreement as run_agreement
pub use Rattle.rule_laws.proofs.run_ints as run_ints
pub use Rattle.rule_laws.proofs.run_laws as run_laws
pub use Rattle.rule_laws.proofs.run_memory as run_memory
pub use Rattle.rule_laws.proofs.run_source as run_source
pub use Rattle.run_states.proofs as run_states
pub use Rattle.rule_laws.proofs.text_canonical as text_canonical
pub use Rattle.rule_laws.proofs.text_grammar as text_grammar
