pub use Rattle.run_hooks.specs as run_hooks
pub mod Slots
pub mod Made
