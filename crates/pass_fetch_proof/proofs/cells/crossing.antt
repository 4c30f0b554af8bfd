pub mod Calls
pub mod Complete
pub mod Follows
pub mod Like
pub mod Values
pub mod Whole
