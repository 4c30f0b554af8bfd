pub use Rattle.frame_conflicts.specs as frame_conflicts
pub use Rattle.frame_conflicts.specs.frame_classes as frame_classes
pub use Rattle.frame_conflicts.specs.frame_slots as frame_slots
pub use Rattle.frame_crossing.specs as frame_crossing
pub mod Held
pub mod Frames
pub mod Report
pub mod Tables
