-- What libraries below say, for those above.
pub use Rattle.pass_proofs.specs.flow_facts as flow_facts
pub use Rattle.pass_proofs.specs.flow_solver as flow_solver
pub use Rattle.frame_acceptance.specs as frame_acceptance
pub use Rattle.pass_proofs.specs.frame_classes as frame_classes
pub use Rattle.pass_proofs.specs.frame_conflicts as frame_conflicts
pub use Rattle.pass_proofs.specs.frame_contents as frame_contents
pub use Rattle.pass_proofs.specs.frame_crossing as frame_crossing
pub use Rattle.frame_good.specs as frame_good
pub use Rattle.frame_layout.specs as frame_layout
pub use Rattle.pass_proofs.specs.frame_slots as frame_slots
pub use Rattle.ir_base.specs as ir_base
pub use Rattle.pass_proofs.specs.ir_calls as ir_calls
pub use Rattle.pass_proofs.specs.ir_laws as ir_laws
pub use Rattle.pass_proofs.specs.ir_locals as ir_locals
pub use Rattle.ir_model.specs as ir_model
pub use Rattle.pass_proofs.specs.ir_parts as ir_parts
pub use Rattle.pass_proofs.specs.ir_paths as ir_paths
pub use Rattle.pass_proofs.specs.ir_sizes as ir_sizes
pub use Rattle.pass_proofs.specs.pass_addresses as pass_addresses
pub use Rattle.pass_proofs.specs.pass_cells as pass_cells
pub use Rattle.pass_cleanup.specs as pass_cleanup
pub use Rattle.pass_proofs.specs.pass_copies as pass_copies
pub use Rattle.pass_proofs.specs.pass_distances as pass_distances
pub use Rattle.pass_early.specs as pass_early
pub use Rattle.pass_elide.specs as pass_elide
pub use Rattle.pass_proofs.specs.pass_edges as pass_edges
pub use Rattle.pass_proofs.specs.pass_exits as pass_exits
pub use Rattle.pass_proofs.specs.pass_fetch as pass_fetch
pub use Rattle.pass_frames.specs as pass_frames
pub use Rattle.pass_proofs.specs.pass_front as pass_front
pub use Rattle.pass_proofs.specs.pass_intrinsics as pass_intrinsics
pub use Rattle.pass_proofs.specs.pass_kept_proof as pass_kept_proof
pub use Rattle.pass_proofs.specs as pass_proofs
pub use Rattle.pass_split.specs as pass_split
pub use Rattle.pass_proofs.specs.rule_all as rule_all
pub use Rattle.pass_proofs.specs.rule_laws as rule_laws
pub use Rattle.pass_proofs.specs.rule_locals as rule_locals
pub use Rattle.pass_proofs.specs.rule_names as rule_names
pub use Rattle.pass_proofs.specs.rule_shape as rule_shape
pub use Rattle.pass_proofs.specs.rule_types as rule_types
pub use Rattle.pass_proofs.specs.rule_uses as rule_uses
pub use Rattle.pass_proofs.specs.rule_values as rule_values
pub use Rattle.pass_proofs.specs.rule_windows as rule_windows
pub use Rattle.pass_proofs.specs.run_agreement as run_agreement
pub use Rattle.pass_proofs.specs.run_framed as run_framed
pub use Rattle.pass_proofs.specs.run_ints as run_ints
pub use Rattle.pass_proofs.specs.run_laws as run_laws
pub use Rattle.pass_proofs.specs.run_memory as run_memory
pub use Rattle.run_plain.specs as run_plain
pub use Rattle.pass_proofs.specs.run_source as run_source
pub use Rattle.pass_proofs.specs.run_source_tables as run_source_tables
pub use Rattle.pass_proofs.specs.run_states as run_states
pub use Rattle.pass_proofs.specs.run_step as run_step
pub use Rattle.text_canonical.specs as text_canonical
pub use Rattle.pass_proofs.specs.text_grammar as text_grammar
pub use Rattle.pass_proofs.specs.text_lexer as text_lexer
pub use Rattle.text_parser.specs as text_parser
pub use Rattle.pass_proofs.specs.text_symbols as text_symbols
pub mod Lowering
pub mod NoCoroutine
pub mod NoRule
pub mod Printed
pub mod cleanup
pub mod order
pub mod whole
