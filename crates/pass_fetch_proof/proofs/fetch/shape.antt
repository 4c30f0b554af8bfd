pub mod Fetching
pub mod Held
pub mod Wanted
