pub mod Named
pub mod Renamed
pub mod Saved
pub mod Unsaved
