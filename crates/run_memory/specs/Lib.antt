pub use Rattle.run_ints.specs as run_ints
pub mod Memory
pub mod Pointers
pub mod Whole
