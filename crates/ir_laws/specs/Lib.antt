-- What libraries below say, for those above.
pub use Rattle.run_laws.specs.flow_solver as flow_solver
pub use Rattle.run_laws.specs.ir_base as ir_base
pub use Rattle.ir_calls.specs as ir_calls
pub use Rattle.ir_locals.specs as ir_locals
pub use Rattle.run_laws.specs.ir_model as ir_model
pub use Rattle.run_laws.specs.ir_paths as ir_paths
pub use Rattle.pass_front.specs as pass_front
pub use Rattle.run_laws.specs.run_agreement as run_agreement
pub use Rattle.run_laws.specs.run_ints as run_ints
pub use Rattle.run_laws.specs as run_laws
pub use Rattle.run_laws.specs.run_memory as run_memory
pub use Rattle.run_source.specs as run_source
pub use Rattle.run_source.specs.run_source_tables as run_source_tables
pub use Rattle.run_laws.specs.run_step as run_step
pub use Rattle.text_names.specs as text_names
pub mod facts
pub mod paths
