pub mod Called
pub mod Entered
pub mod Ramps
pub mod Unset
