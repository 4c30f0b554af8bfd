-- What libraries below say, for those above.
pub use Rattle.flow_solver.specs as flow_solver
pub use Rattle.ir_base.specs as ir_base
pub use Rattle.ir_model.specs as ir_model
pub use Rattle.ir_paths.specs as ir_paths
pub use Rattle.run_agreement.specs as run_agreement
pub use Rattle.run_ints.specs as run_ints
pub use Rattle.run_memory.specs as run_memory
pub use Rattle.run_step.specs as run_step
pub mod access
pub mod changed
pub mod embedded
pub mod memory
pub mod transfer
