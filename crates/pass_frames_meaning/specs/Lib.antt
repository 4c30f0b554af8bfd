-- What libraries below say, for those above.
pub use Rattle.pass_frames_proof.specs as pass_frames_proof
pub use Rattle.pass_renewed_meaning.specs as pass_renewed_meaning
pub use Rattle.pass_frames_proof.specs.pass_renewed_proof as pass_renewed_proof
pub use Rattle.pass_renewed_meaning.specs.run_hooks as run_hooks
pub use Rattle.run_slots.specs as run_slots
pub use Rattle.pass_renewed_meaning.specs.run_types as run_types
pub mod Accesses
pub mod Anew
pub mod Based
pub mod Blank
pub mod Called
pub mod Coroutines
pub mod Covered
pub mod Ends
pub mod Framed
pub mod Fresh
pub mod Giving
pub mod Kinds
pub mod Executed
pub mod Known
pub mod Led
pub mod Marks
pub mod Once
pub mod Ordinary
pub mod Others
pub mod Owned
pub mod Plain
pub mod Pointers
pub mod Setting
pub mod Sized
pub mod Spared
pub mod Standing
pub mod Unbegun
pub mod Woken
