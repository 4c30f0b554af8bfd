-- What libraries below prove, for those above.
pub use Rattle.run_laws.proofs.flow_solver as flow_solver
pub use Rattle.run_laws.proofs.ir_paths as ir_paths
pub use Rattle.ir_tables.proofs as ir_tables
pub use Rattle.run_laws.proofs.run_agreement as run_agreement
pub use Rattle.run_laws.proofs.run_ints as run_ints
pub use Rattle.run_laws.proofs as run_laws
pub use Rattle.run_laws.proofs.run_memory as run_memory
pub use Rattle.run_source.proofs as run_source
pub use Rattle.run_laws.proofs.run_step as run_step
