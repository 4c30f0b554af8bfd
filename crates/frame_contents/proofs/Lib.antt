pub use Rattle.frame_conflicts.proofs.frame_classes as frame_classes
pub use Rattle.frame_conflicts.proofs.frame_slots as frame_slots
pub use Rattle.frame_crossing.proofs as frame_crossing
pub mod Marked
pub mod Placed
pub mod Underway
pub mod Parted
