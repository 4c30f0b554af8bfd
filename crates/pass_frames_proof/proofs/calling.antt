pub mod Callers
pub mod Calls
pub mod Passed
pub mod Push
