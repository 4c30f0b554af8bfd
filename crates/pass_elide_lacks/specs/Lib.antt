pub mod Keeps
pub mod Aside
pub mod Rooms
pub mod Ends
pub mod Wide
