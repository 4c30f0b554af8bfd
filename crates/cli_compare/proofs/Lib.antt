-- What libraries below prove, for those above.
pub use Rattle.compiler_theorem.proofs as compiler_theorem
pub use Rattle.compiler.proofs as compiler
pub mod Followed
pub mod Reported
