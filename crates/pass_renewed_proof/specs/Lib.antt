-- What libraries below say, for those above.
pub use Rattle.flow_facts.specs as flow_facts
pub use Rattle.flow_reach.specs as flow_reach
pub use Rattle.pass_kept_proof.specs.flow_solver as flow_solver
pub use Rattle.frame_classes.specs as frame_classes
pub use Rattle.frame_layout.specs as frame_layout
pub use Rattle.frame_classes.specs.frame_slots as frame_slots
pub use Rattle.pass_kept_proof.specs.ir_base as ir_base
pub use Rattle.pass_kept_proof.specs.ir_model as ir_model
pub use Rattle.pass_kept_proof.specs.ir_paths as ir_paths
pub use Rattle.pass_kept_proof.specs as pass_kept_proof
pub use Rattle.frame_classes.specs.rule_slots as rule_slots
pub use Rattle.pass_kept_proof.specs.rule_windows as rule_windows
pub use Rattle.pass_kept_proof.specs.run_agreement as run_agreement
pub use Rattle.run_framed.specs as run_framed
pub use Rattle.pass_kept_proof.specs.run_ints as run_ints
pub use Rattle.run_laws.specs as run_laws
pub use Rattle.pass_kept_proof.specs.run_memory as run_memory
pub use Rattle.pass_kept_proof.specs.run_source as run_source
pub use Rattle.pass_kept_proof.specs.run_source_tables as run_source_tables
pub use Rattle.pass_kept_proof.specs.run_step as run_step
pub mod Renewed
pub mod LocalSlot
pub mod RestartedSlots
pub mod EscapedRestart
pub mod Muted
pub mod Shown
pub mod Small
pub mod Steps
pub mod Places
pub mod Ahead
pub mod Ready
pub mod SlotRules
pub mod Left
pub mod SlotEnvs
pub mod Entering
pub mod Way
pub mod Prices
pub mod Ledger
pub mod Beside
pub mod Between
pub mod Chosen
pub mod Ordinary
pub mod Making
pub mod Found
pub mod Branching
