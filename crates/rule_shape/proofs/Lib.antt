pub mod Counts
pub mod Ends
pub mod Allocas
pub mod Tokens
