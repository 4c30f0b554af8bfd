pub use Rattle.flow_solver.specs as flow_solver
pub mod Bits
pub mod Laws
pub mod Reaching
