-- What libraries below say, for those above.
pub use Rattle.cli_compare.specs.compiler_theorem as compiler_theorem
pub use Rattle.cli_compare.specs.compiler as compiler
pub mod Answers
