pub mod Branches
pub mod Calls
pub mod Performs
