-- What libraries below say, for those above.
pub use Rattle.pass_frames_meaning.specs.run_types as run_types
pub use Rattle.pass_frames_meaning.specs as pass_frames_meaning
pub use Rattle.compiler.specs as compiler
pub mod Calls
pub mod kinds
pub mod known
pub mod made
pub mod narrow
pub mod parts
pub mod temporaries
pub mod theorem
pub mod woken
