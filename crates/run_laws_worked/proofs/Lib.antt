-- What libraries below prove, for those above.
pub use Rattle.run_laws.proofs as run_laws
pub mod Frames
pub mod Slots
pub mod Stored
