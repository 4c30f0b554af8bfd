pub mod Slots
pub mod Alive
pub mod Apart
pub mod Worked
