-- What libraries below say, for those above.
pub use Rattle.compiler_theorem.specs as compiler_theorem
pub use Rattle.compiler.specs as compiler
pub use Rattle.compiler.specs.frame_acceptance as frame_acceptance
pub use Rattle.cli_runs.specs as cli_runs
pub mod Agreeing
pub mod Compared
