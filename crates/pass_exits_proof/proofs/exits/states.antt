pub mod Agreement
pub mod Exits
pub mod Points
pub mod Ways
