-- What libraries below say, for those above.
pub use Rattle.run_laws_worked.specs as run_laws_worked
pub use Rattle.run_plain.specs as run_plain
pub mod Frames
pub mod Machines
pub mod Worked
