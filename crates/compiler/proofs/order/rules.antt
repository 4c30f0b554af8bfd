pub mod Modules
pub mod Ordered
pub mod Positions
