-- What libraries below prove, for those above.
pub use Rattle.run_laws_worked.proofs as run_laws_worked
pub mod Begun
pub mod Example
pub mod Machines
pub mod Stores
pub mod Ended
