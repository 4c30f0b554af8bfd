-- What libraries below prove, for those above.
pub use Rattle.cli_compare.proofs.compiler_theorem as compiler_theorem
pub use Rattle.cli_compare.proofs.compiler as compiler
pub mod Agreeing
pub mod Chosen
