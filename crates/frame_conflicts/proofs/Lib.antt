pub use Rattle.frame_classes.proofs as frame_classes
pub use Rattle.frame_classes.proofs.frame_slots as frame_slots
pub mod Order
pub mod Places
pub mod Rows
pub mod Marking
pub mod Starting
pub mod Suspending
pub mod Frames
pub mod Looking
pub mod Earliness
pub mod Meetings
pub mod Spotting
pub mod Chunks
pub mod Deciding
pub mod Parting
pub mod Named
