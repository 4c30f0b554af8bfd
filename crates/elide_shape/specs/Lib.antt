pub mod Calls
pub mod Edges
pub mod Phis
pub mod Guard
pub mod Frames
pub mod Frees
