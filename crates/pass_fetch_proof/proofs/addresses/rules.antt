pub mod Placed
pub mod Turning
pub mod Unmarked
