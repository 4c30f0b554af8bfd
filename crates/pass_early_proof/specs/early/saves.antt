pub mod Moved
pub mod SavesWritten
pub mod Spots
