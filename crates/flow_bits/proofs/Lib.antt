pub use Rattle.flow_solver.proofs as flow_solver
pub mod Answers
pub mod Within
