pub mod Behind
pub mod Finish
pub mod Giving
pub mod Intrinsics
pub mod Line
pub mod State
pub mod Touched
