-- What libraries below say, for those above.
pub use Rattle.pass_proofs.specs.flow_solver as flow_solver
pub use Rattle.pass_proofs.specs.frame_classes as frame_classes
pub use Rattle.pass_proofs.specs.frame_contents as frame_contents
pub use Rattle.pass_proofs.specs.frame_crossing as frame_crossing
pub use Rattle.pass_proofs.specs.frame_layout as frame_layout
pub use Rattle.pass_proofs.specs.ir_base as ir_base
pub use Rattle.pass_proofs.specs.ir_laws as ir_laws
pub use Rattle.pass_proofs.specs.ir_model as ir_model
pub use Rattle.pass_proofs.specs.ir_parts as ir_parts
pub use Rattle.pass_proofs.specs.ir_paths as ir_paths
pub use Rattle.pass_proofs.specs.pass_addresses as pass_addresses
pub use Rattle.pass_proofs.specs.pass_cells as pass_cells
pub use Rattle.pass_proofs.specs.pass_copies as pass_copies
pub use Rattle.pass_proofs.specs.pass_distances as pass_distances
pub use Rattle.pass_proofs.specs.pass_early as pass_early
pub use Rattle.pass_proofs.specs.pass_edges as pass_edges
pub use Rattle.pass_proofs.specs.pass_fetch as pass_fetch
pub use Rattle.pass_proofs.specs.pass_frames as pass_frames
pub use Rattle.pass_proofs.specs.pass_front as pass_front
pub use Rattle.pass_proofs.specs.pass_intrinsics as pass_intrinsics
pub use Rattle.pass_proofs.specs.pass_kept_proof as pass_kept_proof
pub use Rattle.pass_proofs.specs as pass_proofs
pub use Rattle.pass_renewed_proof.specs as pass_renewed_proof
pub use Rattle.pass_proofs.specs.rule_laws as rule_laws
pub use Rattle.pass_proofs.specs.rule_locals as rule_locals
pub use Rattle.pass_proofs.specs.rule_names as rule_names
pub use Rattle.pass_proofs.specs.rule_types as rule_types
pub use Rattle.pass_proofs.specs.rule_uses as rule_uses
pub use Rattle.pass_proofs.specs.rule_values as rule_values
pub use Rattle.run_access_worked.specs as run_access_worked
pub use Rattle.pass_proofs.specs.run_agreement as run_agreement
pub use Rattle.pass_proofs.specs.run_framed as run_framed
pub use Rattle.pass_proofs.specs.run_laws as run_laws
pub use Rattle.pass_proofs.specs.run_memory as run_memory
pub use Rattle.pass_proofs.specs.run_source as run_source
pub use Rattle.pass_proofs.specs.run_source_tables as run_source_tables
pub use Rattle.pass_proofs.specs.run_states as run_states
pub use Rattle.pass_proofs.specs.run_step as run_step
pub mod Agains
pub mod Asking
pub mod Calling
pub mod Allocating
pub mod Anew
pub mod Beginning
pub mod Code
pub mod Copying
pub mod Costs
pub mod Distanced
pub mod Distances
pub mod Edges
pub mod Early
pub mod Ending
pub mod Ends
pub mod Entering
pub mod Entered
pub mod Entry
pub mod Fetched
pub mod Followed
pub mod Framings
pub mod FromEdges
pub mod Fronted
pub mod Geps
pub mod Givens
pub mod Heaps
pub mod Here
pub mod Jumps
pub mod Layers
pub mod Landing
pub mod Leaving
pub mod Led
pub mod Lined
pub mod Lines
pub mod Loaded
pub mod Located
pub mod Marking
pub mod Meaning
pub mod Measured
pub mod Moved
pub mod Offsets
pub mod Operands
pub mod Ordinary
pub mod Passes
pub mod Phis
pub mod Places
pub mod Ramps
pub mod Reached
pub mod Related
pub mod Returning
pub mod Saves
pub mod Saving
pub mod Slotted
pub mod Stepping
pub mod Stores
pub mod Suspending
pub mod Temporaries
pub mod Tests
pub mod Waking
pub mod Worked
