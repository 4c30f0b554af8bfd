pub mod Allocas
pub mod Dispatch
pub mod Entries
pub mod Numbers
pub mod Positions
