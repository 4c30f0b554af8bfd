-- What libraries below say, for those above.
pub use Rattle.run_hooks.specs.flow_facts as flow_facts
pub use Rattle.run_hooks.specs.flow_solver as flow_solver
pub use Rattle.run_hooks.specs.frame_classes as frame_classes
pub use Rattle.run_hooks.specs.ir_base as ir_base
pub use Rattle.ir_laws.specs as ir_laws
pub use Rattle.run_hooks.specs.ir_model as ir_model
pub use Rattle.run_hooks.specs.ir_paths as ir_paths
pub use Rattle.run_hooks.specs.pass_kept_proof as pass_kept_proof
pub use Rattle.run_hooks.specs.pass_renewed_proof as pass_renewed_proof
pub use Rattle.run_hooks.specs.rule_windows as rule_windows
pub use Rattle.run_hooks.specs.run_agreement as run_agreement
pub use Rattle.run_hooks.specs.run_framed as run_framed
pub use Rattle.run_hooks.specs as run_hooks
pub use Rattle.run_hooks.specs.run_ints as run_ints
pub use Rattle.run_hooks.specs.run_laws as run_laws
pub use Rattle.run_hooks.specs.run_memory as run_memory
pub use Rattle.run_hooks.specs.run_source as run_source
pub use Rattle.run_hooks.specs.run_source_tables as run_source_tables
pub use Rattle.run_hooks.specs.run_step as run_step
pub mod Fitting
pub mod Rules
pub mod States
pub mod Worked
