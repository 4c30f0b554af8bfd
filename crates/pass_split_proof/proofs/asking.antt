pub mod Done
pub mod Placed
pub mod Promised
