pub use Rattle.pass_frames_meaning.proofs as pass_frames_meaning
pub use Rattle.compiler.proofs as compiler
