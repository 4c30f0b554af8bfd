pub mod Apart
pub mod Points
pub mod Saves
pub mod Slots
pub mod Strands
pub mod Ways
pub mod Windows
