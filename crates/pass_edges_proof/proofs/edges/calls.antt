pub mod Edges
pub mod Fetched
pub mod Jumps
pub mod Moved
pub mod Spared
pub mod Steadily
