pub mod Executed
pub mod Renewed
