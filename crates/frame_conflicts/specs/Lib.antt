pub use Rattle.frame_classes.specs as frame_classes
pub use Rattle.frame_classes.specs.frame_slots as frame_slots
pub mod Pairs
pub mod Conflicts
pub mod Started
pub mod Suspended
pub mod Looked
pub mod Early
pub mod Meeting
pub mod Known
pub mod Parts
