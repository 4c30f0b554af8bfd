pub use Rattle.frame_slots.proofs as frame_slots
pub use Rattle.flow_reach.proofs as flow_reach
pub use Rattle.flow_reach.proofs.flow_blocks as flow_blocks
pub mod Flips
pub mod Zips
pub mod Shapes
pub mod Gathers
pub mod Places
pub mod Passing
pub mod Coming
pub mod Late
pub mod Slots
pub mod Sentences
pub mod Deciding
