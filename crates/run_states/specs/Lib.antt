-- What libraries below say, for those above.
pub use Rattle.run_framed.specs as run_framed
pub mod branches
pub mod moved_states
pub mod shortened
pub mod sound_states
