pub mod Finish
pub mod Giving
pub mod State
pub mod Touched
