pub mod Agreeing
pub mod Ruled
pub mod Runs
