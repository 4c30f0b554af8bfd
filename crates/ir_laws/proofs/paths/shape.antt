pub mod Fetched
pub mod Steady
