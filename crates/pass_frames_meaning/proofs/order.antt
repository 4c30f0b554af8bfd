pub mod Counts
pub mod Parts
pub mod Order
pub mod Wheres
