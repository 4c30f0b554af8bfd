pub mod Types
pub mod Words
pub mod Globals
pub mod Slots
