pub mod Ends
pub mod Fetched
pub mod Good
pub mod Puts
pub mod Remaining
pub mod Times
