-- What libraries below prove, for those above.
pub use Rattle.flow_solver.proofs as flow_solver
pub use Rattle.ir_paths.proofs as ir_paths
pub use Rattle.run_agreement.proofs as run_agreement
pub use Rattle.run_ints.proofs as run_ints
pub use Rattle.run_memory.proofs as run_memory
pub use Rattle.run_step.proofs as run_step
