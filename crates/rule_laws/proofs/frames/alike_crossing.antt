pub mod Alike
pub mod Counted
pub mod Crossing
pub mod Values
